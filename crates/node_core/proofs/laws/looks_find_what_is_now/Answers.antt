use Rattle.std.proofs.Common.{◌≡◌, ◌∙◌, ◌++◌, List, sym, ap}
use Rattle.hist_journal.specs.declared.seen.EntrySeen.{EntrySeen}
use Rattle.hist_journal.specs.Folds.{edition_of, raises_of, value_of}
use Rattle.shelf.specs.declared.store.Store.{Store}
use Rattle.shelf.specs.Legal.{Legal}
use Rattle.shelf.specs.Meanings.{Meanings}
use Rattle.shelf.proofs.FreshLemmas.{Fresh, quiet_is_fresh}
use Rattle.value_cache.specs.Cached.{Cached}
use Rattle.value_cache.specs.Truth.{IsOfPrefix}
use Rattle.node_core.proofs.laws.looks_find_what_is_now.Goals as goal

module _ {V T M : Type 0} (m : Meanings V T) (s : Store V M) (list : List (EntrySeen V T)) (kept : Cached V) (legal : Legal m s list) (it : IsOfPrefix m.after s.base list kept) (version : kept.version ≡ raises_of list) where
  -- nothing behind the prefix changed the value
  fresh : Fresh m s it.front (it.front ++ it.back)
  fresh = quiet_is_fresh m s it.front it.back (rw it.is at legal) it.of.quiet (sym (ap raises_of it.is) ∙ (sym version ∙ it.of.version))

pub returns : goal.returns
returns g c =
    record {
      value = λ m s list kept legal it version. ap (value_of m.after s.base) it.is ∙ ((fresh m s list kept legal it version).value ∙ it.of.value);
      edition = λ m s list kept legal it version. ap edition_of it.is ∙ ((fresh m s list kept legal it version).edition ∙ sym it.of.edition);
    }
