-- Which values reads give, and that no client sees an older edition than before.
use Rattle.std.specs.Prelude.{◌≡◌, ◌≢◌, ◌≤◌, ℕ, List, Option, Some, None, IfSome}
use Rattle.hist_journal.specs.declared.seen.BaseSeen.TheVariants.{Held}
use Rattle.hist_journal.specs.Folds.{edition_of}
use Rattle.prefs_edit.specs.declared.edit_step.EditStep.{EditStep}
use Rattle.prefs_model.specs.declared.pref_pair.PrefPair.{PrefPair}
use Rattle.prefs_text.specs.EntryText.{PrefEntry}
use Rattle.prefs_text.specs.declared.seen.AnswerLineSeen.{AnswerLineSeen}
use Rattle.prefs_text.specs.declared.seen.AnswerSeen.{AnswerSeen}
use Rattle.prefs_text.specs.declared.seen.AnswerSeen.TheVariants.{Read, Flow, Unchanged}
use Rattle.shelf.specs.declared.store.Store.{Store}
use Rattle.shelf.specs.Legal.{value_at}
use Rattle.shelf.specs.Places.{HasFront}
use Rattle.shelf.specs.Rules.{Rules}
use Rattle.script_lang.specs.Chronicle.{Basis, Chapter}
use Rattle.shelf.specs.Each.{Each}
use Rattle.script_lang.specs.Shown.{last_flow, printed, shown_to}

module _ (r : Rules (List PrefPair) (List EditStep)) {M : Type 0} (s : Store (List PrefPair) M) where
  -- the history reaches the edition, and this is its value there
  pub record HasValue (edition : ℕ) (map : List PrefPair) (front : List PrefEntry) : Type 0 where
    pub reached : edition_of front ≡ edition
    pub value : value_at r.meanings s front ≡ Held map

module _ (b : Basis) (c : Chapter) where
  abbrev pub GivesValue : AnswerSeen → Type 0
  GivesValue (Read edition map) = HasFront (HasValue b.rules c.store edition map) c.told.entries
  GivesValue (Flow edition map) = HasFront (HasValue b.rules c.store edition map) c.told.entries
  GivesValue other = Unit {0}

  abbrev pub GivesValues : Type 0
  GivesValues = Each (λ before line. GivesValue line.answer) c.told.answers

module _ (c : Chapter) where
  -- a flow gives a value once, and says then that it is unchanged
  abbrev pub KeepsFlow : Option ℕ → AnswerSeen → Type 0
  KeepsFlow last (Flow edition map) = last ≢ Some edition
  KeepsFlow last (Unchanged edition) = last ≡ Some edition
  KeepsFlow last other = Unit {0}

  -- what is printed is as late as all that the client was shown before
  pub record IsFresh (before : List AnswerLineSeen) (line : AnswerLineSeen) : Type 0 where
    pub late : IfSome (printed line.answer) (λ edition. shown_to line.call.client c.told.entries before ≤ edition)
    pub flow : KeepsFlow (last_flow line.call.client None before) line.answer

  abbrev pub KeepsFresh : Type 0
  KeepsFresh = Each IsFresh c.told.answers
