-- What the tests of a transcript take of its basis.
use Rattle.std.specs.Prelude.{ℕ, List}
use Rattle.prefs_model.specs.declared.pref_pair.PrefPair.{PrefPair}
use Rattle.shelf.specs.Decided.{Decided}
use Rattle.script_lang.specs.declared.plan.script.Script.{Script}
use Rattle.script_lang.specs.declared.transcripts.transcript.Transcript.{Transcript}
use Rattle.script_lang.specs.Chronicle.{Basis}
use Rattle.script_lang.specs.Good.{IsGood, Setting}
use Rattle.script_lang.specs.Rules.{KeepsRule, Rule}

-- what bytes read as is a relation, so its tests are given: whether they read as this map, and whether as none
pub record ReadingTests (b : Basis) : Type 0 where
  pub reads : (bytes : List ℕ) (map : List PrefPair) → Decided (b.rules.reads bytes map)
  pub reads_none : (bytes : List ℕ) → Decided ((map : List PrefPair) → b.rules.reads bytes map → ⊥)

-- with them there are tests of whether a transcript tells the truth of its script, and of whether it keeps a rule
pub record TruthTests (b : Basis) : Type 0 where
  pub good : (setting : Setting) (script : Script) (transcript : Transcript) → Decided (IsGood b setting script transcript)
  pub rule : (setting : Setting) (script : Script) (transcript : Transcript) (rule : Rule) → Decided (KeepsRule b setting script transcript rule)
