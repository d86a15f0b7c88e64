-- Which nodes a history leaves dead, and which have died in it.
use Rattle.std.proofs.Common.{◌≡◌, ◌∙◌, ◌+◌, ℕ, zero, suc, Bool, true, false, ◌||◌, nat_lt, List, [], ◌∷◌, ◌++◌, Option, Some, None, unwrap_or, drop, length, cond, refl, sym, ap, arith, if◌then◌else◌}
use Rattle.std.specs.List.{list_any}
use Rattle.std.specs.Option.{IfNone, IfSome, is_some, option_map, option_or}
use Rattle.std.proofs.lemmas.Bool.{or_parts}
use Rattle.std.proofs.lemmas.Bool.Decides.{nat_tests}
use Rattle.std.proofs.lemmas.List.Folds.{list_any-append}
use Rattle.store_traits.specs.declared.ids.NodeId.{NodeId}
use Rattle.hist_journal.specs.declared.seen.EntrySeen.{EntrySeen}
use Rattle.hist_journal.specs.declared.seen.KindSeen.{KindSeen}
use Rattle.hist_journal.specs.declared.seen.KindSeen.TheVariants.{Death, Restart}
use Rattle.hist_journal.specs.Kinds.{is_death_of, is_node}
use Rattle.hist_journal.specs.Nodes.{death_mark, is_dead, last_mark, mark_if}
use Rattle.hist_journal.proofs.NodeLemmas.{is_dead-push}
use Rattle.shelf.specs.Deaths.{died_since, has_died, last_death}
use Rattle.shelf.specs.Entries.{is_death}
use Rattle.shelf.specs.Meanwhile.{NoDeathOf}
use Rattle.shelf.specs.NodeStates.{died_behind}
use Rattle.shelf.proofs.Bools.{never}
use Rattle.shelf.proofs.RaiseLemmas.{none_of_fewer}

unmarked : (b : Bool) → unwrap_or (mark_if b false) false ≡ false
unmarked true = refl
unmarked false = refl

later_or_first : (later first : Option Bool) → unwrap_or later false ≡ false → unwrap_or first false ≡ false → unwrap_or (option_or later first) false ≡ false
later_or_first None first later_none first_none = first_none
later_or_first (Some b) first later_none first_none = later_none

-- the place of the last Death, where more entries stand before it
abbrev last_behind : (dies : Bool) → Option ℕ → Option ℕ
last_behind dies later = option_or (option_map (λ at. at + 1) later) (if dies then Some 1 else None)

positive : (place : ℕ) → nat_lt 0 (place + 1) ≡ true
positive place = grind (arith, nat_tests)

one_less : (since place : ℕ) → nat_lt (suc since) (place + 1) ≡ nat_lt since place
one_less since place = grind (arith, nat_tests)

none_below_one : (since : ℕ) → nat_lt (suc since) 1 ≡ false
none_below_one since = grind (arith, nat_tests)

either_or_true : (b : Bool) → (b || true) ≡ true
either_or_true true = refl
either_or_true false = refl

any_more : (dies any : Bool) (later : Option ℕ) → any ≡ is_some later → (dies || any) ≡ is_some (last_behind dies later)
any_more dies any (Some place) is = ap (λ b. dies || b) is ∙ either_or_true dies
any_more true any None is = refl
any_more false any None is = is

died_from_start : (dies any : Bool) (later : Option ℕ) → any ≡ is_some later → (dies || any) ≡ died_behind (Some 0) (last_behind dies later)
died_from_start dies any (Some place) is = ap (λ b. dies || b) is ∙ (either_or_true dies ∙ sym (positive place))
died_from_start true any None is = refl
died_from_start false any None is = is

died_from_later : (since : ℕ) (dies any : Bool) (later : Option ℕ) → any ≡ died_behind (Some since) later → any ≡ died_behind (Some (suc since)) (last_behind dies later)
died_from_later since dies any (Some place) is = is ∙ sym (one_less since place)
died_from_later since true any None is = is ∙ sym (none_below_one since)
died_from_later since false any None is = is

-- one more entry
pushed_place : (ends : Bool) (len : ℕ) (before : Option ℕ) (dies : Bool) → last_behind dies (if ends then Some (len + 1) else before) ≡ (if ends then Some (suc len + 1) else last_behind dies before)
pushed_place true len before dies = ap Some (omega arith)
pushed_place false len before dies = refl

not_marked : (b mark : Bool) → mark_if b mark ≡ None → b ≡ false
not_marked true mark is = absurd (cc)
not_marked false mark is = refl

module _ {V T : Type 0} (node : NodeId) where
  -- a Death of this node
  abbrev pub dies : EntrySeen V T → Bool
  dies e = is_death_of node e.kind

  -- what is no Death of the node does not leave it dead
  pub spared_lives : (kind : KindSeen V T) → is_death_of node kind ≡ false → unwrap_or (death_mark node kind) false ≡ false
  spared_lives (Death died) none = ap (λ b. unwrap_or (mark_if b true) false) none
  spared_lives (Restart alive) none = unmarked (is_node node alive)
  spared_lives other none = refl

  spares : (kind : KindSeen V T) → is_death kind ≡ false → is_death_of node kind ≡ false
  spares (Death died) none = absurd cc
  spares other none = refl

  -- what marks no node dead or alive is no Death
  pub unmarked_lives : (kind : KindSeen V T) → death_mark node kind ≡ None → is_death_of node kind ≡ false
  unmarked_lives (Death died) is = not_marked (is_node node died) true is
  unmarked_lives other is = refl

  -- where no node dies, this one does not
  pub none_of_node : (list : List (EntrySeen V T)) → list_any (λ (e : EntrySeen V T). is_death e.kind) list ≡ false → NoDeathOf node list
  none_of_node list = none_of_fewer dies (λ (e : EntrySeen V T). is_death e.kind) list (λ e none. spares e.kind none)

  -- a node that never died is not dead
  pub none_dead : (list : List (EntrySeen V T)) → NoDeathOf node list → is_dead node list ≡ false
  unfolding is_dead last_mark
  none_dead [] none = refl
  none_dead (e ∷ es) none =
      let parts = or_parts (dies e) (list_any dies es) none in
      later_or_first (last_mark (death_mark node) es) (death_mark node e.kind) (none_dead es parts.1) (spared_lives e.kind parts.0)

  -- a node that is dead has a Death
  pub dead_died : (list : List (EntrySeen V T)) → is_dead node list ≡ true → list_any dies list ≡ true
  dead_died list dead = by_test (list_any dies list) refl
    where
      by_test : (b : Bool) → list_any dies list ≡ b → list_any dies list ≡ true
      by_test true is = is
      by_test false none = never (sym (none_dead list none) ∙ dead)

  -- some Death of the node is its last
  any_death : (list : List (EntrySeen V T)) → list_any dies list ≡ is_some (last_death node list)
  unfolding last_death
  any_death [] = refl
  any_death (e ∷ es) = any_more (dies e) (list_any dies es) (last_death node es) (any_death es)

  -- whether it died behind so many entries is told by the place of its last Death
  died_from : (since : ℕ) (list : List (EntrySeen V T)) → list_any dies (drop since list) ≡ died_behind (Some since) (last_death node list)
  unfolding last_death
  died_from zero [] = refl
  died_from (suc since) [] = refl
  died_from zero (e ∷ es) = died_from_start (dies e) (list_any dies es) (last_death node es) (any_death es)
  died_from (suc since) (e ∷ es) = died_from_later since (dies e) (list_any dies (drop since es)) (last_death node es) (died_from since es)

  pub died_since-last : (since : Option ℕ) (list : List (EntrySeen V T)) → died_since node since list ≡ died_behind since (last_death node list)
  died_since-last None list = refl
  died_since-last (Some since) list = died_from since list

  -- a node that is dead, or has died since, has a last Death
  pub has_died-last : (since : Option ℕ) (list : List (EntrySeen V T)) → has_died node since list ≡ true → (place : ℕ) × (last_death node list ≡ Some place)
  has_died-last since list died = by_place (last_death node list) refl
    where
      by_place : (last : Option ℕ) → last_death node list ≡ last → (place : ℕ) × (last_death node list ≡ Some place)
      by_place (Some place) is = (place, is)
      by_place None is =
          let never_died : list_any dies list ≡ false = any_death list ∙ ap is_some is in
          let not_since : died_since node since list ≡ false = died_since-last since list ∙ (ap (died_behind since) is ∙ nothing_behind since) in
          never (sym (ap (λ b. b || died_since node since list) (none_dead list never_died) ∙ not_since) ∙ died)
        where
          nothing_behind : (since : Option ℕ) → died_behind since None ≡ false
          nothing_behind None = refl
          nothing_behind (Some n) = refl

  -- the same of what is known of the node
  module _ (since : Option ℕ) (list : List (EntrySeen V T)) (dead : Bool) (last : Option ℕ) (is_so : dead ≡ is_dead node list) (stands : last ≡ last_death node list) where
    has_died-told : has_died node since list ≡ (dead || died_behind since last)
    has_died-told =
        ap (λ b. b || died_since node since list) (sym is_so)
        ∙ (ap (λ b. dead || b) (died_since-last since list) ∙ ap (λ place. dead || died_behind since place) (sym stands))

    pub death_told : (result : Option ℕ) → result ≡ cond (dead || died_behind since last) last None → IfSome result (λ at. (has_died node since list ≡ true) × (last_death node list ≡ Some at))
    death_told result is = by_test (dead || died_behind since last) result has_died-told is
      where
        by_test : (b : Bool) (o : Option ℕ) → has_died node since list ≡ b → o ≡ cond b last None → IfSome o (λ at. (has_died node since list ≡ true) × (last_death node list ≡ Some at))
        by_test b None has so = tt
        by_test true (Some at) has so = (has, sym (so ∙ stands))
        by_test false (Some at) has so = absurd (cc)

    pub life_told : (result : Option ℕ) → result ≡ cond (dead || died_behind since last) last None → IfNone result (has_died node since list ≡ false)
    life_told result is = by_test (dead || died_behind since last) result has_died-told is
      where
        by_test : (b : Bool) (o : Option ℕ) → has_died node since list ≡ b → o ≡ cond b last None → IfNone o (has_died node since list ≡ false)
        by_test b (Some at) has so = tt
        by_test true None has so = let it = has_died-last since list has in absurd (let no : None ≡ Some it.0 = so ∙ (stands ∙ it.1) in cc)
        by_test false None has so = has

  -- a history in which no node dies
  pub has_not_died : (since : Option ℕ) (list : List (EntrySeen V T)) → list_any (λ (e : EntrySeen V T). is_death e.kind) list ≡ false → has_died node since list ≡ false
  has_not_died since list none = none_died since list (none_of_node list none)
    where
      not_among : (n : ℕ) (entries : List (EntrySeen V T)) → NoDeathOf node entries → list_any dies (drop n entries) ≡ false
      not_among zero [] free = refl
      not_among (suc n) [] free = refl
      not_among zero (e ∷ es) free = free
      not_among (suc n) (e ∷ es) free = not_among n es (or_parts (dies e) (list_any dies es) free).1

      none_died : (from : Option ℕ) (entries : List (EntrySeen V T)) → NoDeathOf node entries → has_died node from entries ≡ false
      none_died None entries free = rw (none_dead entries free) refl
      none_died (Some n) entries free = rw (none_dead entries free) (not_among n entries free)

  -- a Death stays behind so many entries, once the history is longer
  pub died_since-front : (since : Option ℕ) (list more : List (EntrySeen V T)) → died_since node since (list ++ more) ≡ false → died_since node since list ≡ false
  died_since-front None list more none = refl
  died_since-front (Some since) list more none = front since list none
    where
      front : (n : ℕ) (entries : List (EntrySeen V T)) → list_any dies (drop n (entries ++ more)) ≡ false → list_any dies (drop n entries) ≡ false
      front zero [] free = refl
      front (suc n) [] free = refl
      front zero (e ∷ es) free = (or_parts (list_any dies (e ∷ es)) (list_any dies more) (sym (list_any-append dies (e ∷ es) more) ∙ free)).0
      front (suc n) (e ∷ es) free = front n es free

  -- a turn that begins a call asks for no earlier Death than one behind it
  pub has_died-now : (since : Option ℕ) (list : List (EntrySeen V T)) → has_died node (Some (unwrap_or since (length list))) list ≡ has_died node since list
  has_died-now (Some n) list = refl
  has_died-now None list = ap (λ b. is_dead node list || b) (nothing_behind list)
    where
      nothing_behind : (entries : List (EntrySeen V T)) → list_any dies (drop (length entries) entries) ≡ false
      nothing_behind [] = refl
      nothing_behind (e ∷ es) = nothing_behind es

  pub last_death-push : (list : List (EntrySeen V T)) (e : EntrySeen V T) → last_death node (list ++ e ∷ []) ≡ (if is_death_of node e.kind then Some (length list + 1) else last_death node list)
  unfolding last_death
  last_death-push [] e = refl
  last_death-push (x ∷ xs) e = ap (last_behind (dies x)) (last_death-push xs e) ∙ pushed_place (dies e) (length xs) (last_death node xs) (dies x)

  -- one more entry that neither kills the node nor brings it back
  pub is_dead-same : (list : List (EntrySeen V T)) (e : EntrySeen V T) → death_mark node e.kind ≡ None → is_dead node (list ++ e ∷ []) ≡ is_dead node list
  is_dead-same list e is = is_dead-push node list e ∙ ap (λ mark. unwrap_or mark (is_dead node list)) is

  pub last_death-same : (list : List (EntrySeen V T)) (e : EntrySeen V T) → is_death_of node e.kind ≡ false → last_death node (list ++ e ∷ []) ≡ last_death node list
  last_death-same list e is = last_death-push list e ∙ ap (λ b. if b then Some (length list + 1) else last_death node list) is

  pub has_died-same : (since : Option ℕ) (list : List (EntrySeen V T)) (e : EntrySeen V T) → death_mark node e.kind ≡ None → has_died node since (list ++ e ∷ []) ≡ has_died node since list
  has_died-same since list e is =
      let last = died_since-last since (list ++ e ∷ []) ∙ (ap (died_behind since) (last_death-same list e (unmarked_lives e.kind is)) ∙ sym (died_since-last since list)) in
      ap (λ b. b || died_since node since (list ++ e ∷ [])) (is_dead-same list e is) ∙ ap (λ b. is_dead node list || b) last
