-- The first rule is tested: sessions follow one another, and each history is lawful.
use Rattle.std.proofs.Common.{◌-◌, ℕ, true, false, List, [], ◌∷◌, ◌++◌, length, map, Option, Some, None, is_some}
use Rattle.std.specs.Prelude.{replicate}
use Rattle.hist_journal.specs.declared.seen.BaseSeen.{BaseSeen}
use Rattle.hist_journal.specs.declared.seen.BaseSeen.TheVariants.{Held, Corrupt, TooLong}
use Rattle.prefs_model.specs.declared.pref_pair.PrefPair.{PrefPair}
use Rattle.shelf.specs.Base.{ReadsAs}
use Rattle.shelf.specs.Decided.{Decided}
use Rattle.shelf.proofs.BaseTests.{same_base}
use Rattle.shelf.proofs.LegalTest.{lawful}
use Rattle.shelf.proofs.ListTests.{each}
use Rattle.shelf.proofs.Tests.{at_most, both, less, like, same_bool, same_list, same_number}
use Rattle.script_lang.specs.declared.plan.script.Script.{Script}
use Rattle.script_lang.specs.Chronicle.{Basis, Chapter, IsChronicle, IsLawful}
use Rattle.script_lang.specs.TruthTests.{ReadingTests}
use Rattle.script_lang.specs.TranscriptView.{SessionSeen}
use Rattle.script_lang.proofs.EditTests.{one_map}

module _ (b : Basis) (tests : ReadingTests b) where
  abbrev pub reads_as : (limit : ℕ) (main : Option (List ℕ)) (base : BaseSeen (List PrefPair)) → Decided (ReadsAs b.rules.reads b.rules.absent limit main base)
  reads_as limit None base = same_base one_map base (Held b.rules.absent)
  reads_as limit (Some bytes) (Held map) = both (at_most (length bytes) limit) (tests.reads bytes map)
  reads_as limit (Some bytes) Corrupt = both (at_most (length bytes) limit) (tests.reads_none bytes)
  reads_as limit (Some bytes) (TooLong len) = both (less limit (length bytes)) (same_number len (length bytes))

  abbrev pub is_lawful : (c : Chapter) → Decided (IsLawful b c)
  is_lawful c =
      like
      (λ it. record { base = it.0; history = it.1 })
      (λ it. (it.base, it.history))
      (both (reads_as c.store.limits.file c.store.main c.store.base) (lawful one_map b.rules.meanings c.store c.told.entries))

  abbrev pub is_chronicle : (script : Script) (told : List SessionSeen) (chapters : List Chapter) → Decided (IsChronicle b script told chapters)
  is_chronicle script told chapters =
      like
      (λ it. record { sessions = it.0; stops = it.1.0; lawful = it.1.1 })
      (λ it. (it.sessions, (it.stops, it.lawful)))
      (both (same_number (length told) (length script.sessions))
      (both (same_list same_bool (map (λ plan. is_some plan.stop) script.sessions) (replicate (length script.sessions - 1) true ++ false ∷ []))
      (each (λ before c. IsLawful b c) (λ before c. is_lawful c) chapters)))
