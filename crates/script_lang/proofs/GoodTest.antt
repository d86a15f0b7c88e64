-- Whether a transcript tells the truth of its script is tested, rule by rule.
use Rattle.std.proofs.Common.{◌≡◌, List, length, is_some, refl, ap}
use Rattle.store_traits.specs.declared.ids.CallId.{CallId}
use Rattle.prefs_text.specs.Callers.{callers}
use Rattle.prefs_text.specs.declared.names.Names.{Names}
use Rattle.prefs_text.specs.declared.seen.AnswerLineSeen.{AnswerLineSeen}
use Rattle.shelf.specs.Decided.{Decided}
use Rattle.shelf.proofs.ListTests.{each}
use Rattle.shelf.proofs.Tests.{both, if_some, less, like, one_node, same_bool, same_list}
use Rattle.script_lang.specs.declared.plan.script.Script.{Script}
use Rattle.script_lang.specs.declared.transcripts.transcript.Transcript.{Transcript}
use Rattle.script_lang.specs.Asked.{home_of, is_actor}
use Rattle.script_lang.specs.Chronicle.{Basis, Chapter}
use Rattle.script_lang.specs.Good.{Good, IsGood, KeepsPlans, KeepsRules, Scripted, Setting, TellsFile, chapters_of}
use Rattle.script_lang.specs.GoodAnswers.{HasHomes, IsHome, IsTold}
use Rattle.script_lang.specs.GoodCauses.{HasCauses}
use Rattle.script_lang.specs.GoodReads.{GivesValues, KeepsFresh}
use Rattle.script_lang.specs.GoodUpdates.{Acknowledges}
use Rattle.script_lang.specs.Rules.{G1, G2, G3, G4, G5, G6, G7, G8, G9, KeepsRule, Rule}
use Rattle.script_lang.specs.TruthTests.{ReadingTests, TruthTests}
use Rattle.script_lang.proofs.AnswersTest.{answered}
use Rattle.script_lang.proofs.CausesTest.{has_causes}
use Rattle.script_lang.proofs.ChronicleTest.{is_chronicle}
use Rattle.script_lang.proofs.EditTests.{one_bytes}
use Rattle.script_lang.proofs.FileTest.{tells_file}
use Rattle.script_lang.proofs.FreshTest.{keeps_fresh}
use Rattle.script_lang.proofs.JobsTest.{has_jobs}
use Rattle.script_lang.proofs.PlansTest.{keeps_plans}
use Rattle.script_lang.proofs.ReadsTest.{gives_values}
use Rattle.script_lang.proofs.UpdatesTest.{acknowledges}

pub names_so : (a b : Names) → (a.nodes ≡ b.nodes) × (a.clients ≡ b.clients) → a ≡ b
names_so a b is = rw (is.0, is.1) refl

abbrev pub one_names : (a b : Names) → Decided (a ≡ b)
one_names a b = like (names_so a b) (λ is. (ap (λ (n : Names). n.nodes) is, ap (λ (n : Names). n.clients) is)) (both (same_list one_bytes a.nodes b.nodes) (same_list one_bytes a.clients b.clients))

module _ (script : Script) where
  abbrev pub at_home : (call : CallId) → Decided (IsHome script call)
  at_home call =
      like (λ it. record { known = it.0; home = it.1 }) (λ it. (it.known, it.home)) (both (less call.client.0 (length (callers script.names))) (one_node call.node (home_of script call.client)))

  abbrev pub told_at_home : (line : AnswerLineSeen) → Decided (IsTold script line)
  told_at_home line =
      like
      (λ it. record { home = it.0; poster = it.1.0; poster_home = it.1.1 })
      (λ it. (it.home, (it.poster, it.poster_home)))
      (both (at_home line.call) (both (same_bool (is_some line.poster) (is_actor script line.call.client)) (if_some (λ call. IsHome script call) at_home line.poster)))

  abbrev pub have_homes : (c : Chapter) → Decided (HasHomes script c)
  have_homes c =
      like
      (λ it. record { answers = it.0; entries = it.1 })
      (λ it. (it.answers, it.entries))
      (both (each (λ before line. IsTold script line) (λ before line. told_at_home line) c.told.answers) (each (λ before e. IsHome script e.who) (λ before e. at_home e.who) c.told.entries))

module _ (b : Basis) (tests : ReadingTests b) (setting : Setting) (script : Script) (transcript : Transcript) where
  abbrev chapters : List Chapter
  chapters = chapters_of b setting script transcript

  abbrev pub keeps : (rule : Rule) → Decided (KeepsRule b setting script transcript rule)
  keeps G1 = is_chronicle b tests script transcript.sessions chapters
  keeps G2 = answered script chapters
  keeps G3 = each (λ before c. Acknowledges c) (λ before c. acknowledges c) chapters
  keeps G4 = each (λ before c. GivesValues b c) (λ before c. gives_values b c) chapters
  keeps G5 = each (λ before c. KeepsFresh c) (λ before c. keeps_fresh c) chapters
  keeps G6 = each (λ before c. HasCauses b c) (λ before c. has_causes b c) chapters
  keeps G7 = has_jobs script chapters
  keeps G8 = each (λ before c. KeepsPlans setting c) (λ before c. keeps_plans c setting) chapters
  keeps G9 = each (λ before c. TellsFile b c) (λ before c. tells_file b c) chapters

  abbrev pub keeps_rules : Decided (KeepsRules b setting script transcript chapters)
  keeps_rules =
      like
      (λ it. record {
        chronicle = it.0;
        answers = it.1.0;
        updates = it.1.1.0;
        reads = it.1.1.1.0;
        fresh = it.1.1.1.1.0;
        causes = it.1.1.1.1.1.0;
        jobs = it.1.1.1.1.1.1.0;
        plans = it.1.1.1.1.1.1.1.0;
        file = it.1.1.1.1.1.1.1.1;
      })
      (λ it. (it.chronicle, (it.answers, (it.updates, (it.reads, (it.fresh, (it.causes, (it.jobs, (it.plans, it.file)))))))))
      (both (keeps G1) (both (keeps G2) (both (keeps G3) (both (keeps G4) (both (keeps G5) (both (keeps G6) (both (keeps G7) (both (keeps G8) (keeps G9)))))))))

  abbrev pub good : Decided (IsGood b setting script transcript)
  good =
      like
      (λ it. record { names = it.0; homes = it.1.0; rules = it.1.1 })
      (λ it. (it.names, (it.homes, it.rules)))
      (both (one_names transcript.names script.names) (both (each (λ before c. HasHomes script c) (λ before c. have_homes script c) chapters) keeps_rules))

-- what is good keeps each rule
pub rule_of : (b : Basis) (script : Script) (transcript : Transcript) (rule : Rule) → Good b script transcript → KeepsRule b Scripted script transcript rule
rule_of b script transcript G1 g = g.rules.chronicle
rule_of b script transcript G2 g = g.rules.answers
rule_of b script transcript G3 g = g.rules.updates
rule_of b script transcript G4 g = g.rules.reads
rule_of b script transcript G5 g = g.rules.fresh
rule_of b script transcript G6 g = g.rules.causes
rule_of b script transcript G7 g = g.rules.jobs
rule_of b script transcript G8 g = g.rules.plans
rule_of b script transcript G9 g = g.rules.file

pub truth_tests : (b : Basis) → ReadingTests b → TruthTests b
truth_tests b tests = record { good = good b tests; rule = keeps b tests }
