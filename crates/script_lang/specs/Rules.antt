-- The nine rules of a transcript that tells the truth, each by its name.
use Rattle.std.specs.Prelude.{List}
use Rattle.shelf.specs.Each.{Each}
use Rattle.script_lang.specs.declared.plan.script.Script.{Script}
use Rattle.script_lang.specs.declared.transcripts.transcript.Transcript.{Transcript}
use Rattle.script_lang.specs.Chronicle.{Basis, Chapter, IsChronicle}
use Rattle.script_lang.specs.Good.{KeepsPlans, Scripted, Setting, TellsFile, chapters_of}
use Rattle.script_lang.specs.GoodAnswers.{IsAnswered}
use Rattle.script_lang.specs.GoodCauses.{HasCauses}
use Rattle.script_lang.specs.GoodPosts.{HasJobs}
use Rattle.script_lang.specs.GoodReads.{GivesValues, KeepsFresh}
use Rattle.script_lang.specs.GoodUpdates.{Acknowledges}

pub data Rule : Type 0 where
  G1 : Rule
  G2 : Rule
  G3 : Rule
  G4 : Rule
  G5 : Rule
  G6 : Rule
  G7 : Rule
  G8 : Rule
  G9 : Rule

module _ (b : Basis) (setting : Setting) (script : Script) (transcript : Transcript) where
  abbrev chapters : List Chapter
  chapters = chapters_of b setting script transcript

  -- what a rule says of the transcript
  abbrev pub KeepsRule : Rule → Type 0
  KeepsRule G1 = IsChronicle b script transcript.sessions chapters
  KeepsRule G2 = IsAnswered script chapters
  KeepsRule G3 = Each (λ before c. Acknowledges c) chapters
  KeepsRule G4 = Each (λ before c. GivesValues b c) chapters
  KeepsRule G5 = Each (λ before c. KeepsFresh c) chapters
  KeepsRule G6 = Each (λ before c. HasCauses b c) chapters
  KeepsRule G7 = HasJobs script chapters
  KeepsRule G8 = Each (λ before c. KeepsPlans setting c) chapters
  KeepsRule G9 = Each (λ before c. TellsFile b c) chapters

-- the rule does not hold of it, by a script that says it all
abbrev pub Breaks : Basis → Rule → Script → Transcript → Type 0
Breaks b rule script transcript = KeepsRule b Scripted script transcript rule → ⊥
