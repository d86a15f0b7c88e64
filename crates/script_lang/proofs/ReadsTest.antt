-- The fourth rule is tested: what is read is the value of its edition.
use Rattle.std.proofs.Common.{ℕ, List}
use Rattle.hist_journal.specs.declared.seen.BaseSeen.TheVariants.{Held}
use Rattle.hist_journal.specs.Folds.{edition_of}
use Rattle.prefs_model.specs.declared.pref_pair.PrefPair.{PrefPair}
use Rattle.prefs_text.specs.EntryText.{PrefEntry}
use Rattle.prefs_text.specs.declared.seen.AnswerSeen.{AnswerSeen}
use Rattle.prefs_text.specs.declared.seen.AnswerSeen.TheVariants.{Read, Flow}
use Rattle.shelf.specs.Decided.{Decided}
use Rattle.shelf.specs.Legal.{value_at}
use Rattle.shelf.proofs.BaseTests.{same_base}
use Rattle.shelf.proofs.ListTests.{each, some_front}
use Rattle.shelf.proofs.Tests.{both, like, same_number, sure}
use Rattle.script_lang.specs.Chronicle.{Basis, Chapter}
use Rattle.script_lang.specs.GoodReads.{GivesValue, GivesValues, HasValue}
use Rattle.script_lang.proofs.EditTests.{one_map}

module _ (b : Basis) (c : Chapter) where
  abbrev pub has_value : (edition : ℕ) (map : List PrefPair) (front : List PrefEntry) → Decided (HasValue b.rules c.store edition map front)
  has_value edition map front =
      like (λ it. record { reached = it.0; value = it.1 }) (λ it. (it.reached, it.value)) (both (same_number (edition_of front) edition) (same_base one_map (value_at b.rules.meanings c.store front) (Held map)))

  abbrev pub gives_value : (answer : AnswerSeen) → Decided (GivesValue b c answer)
  gives_value (Read edition map) = some_front (HasValue b.rules c.store edition map) (has_value edition map) c.told.entries
  gives_value (Flow edition map) = some_front (HasValue b.rules c.store edition map) (has_value edition map) c.told.entries
  gives_value other = sure tt

  abbrev pub gives_values : Decided (GivesValues b c)
  gives_values = each (λ before line. GivesValue b c line.answer) (λ before line. gives_value line.answer) c.told.answers
