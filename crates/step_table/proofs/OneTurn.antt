-- Two turns of a call in one told world come to the same, where memory lasts and a call that fails spares the folder.
use Rattle.std.proofs.Common.{◌≡◌, ◌∙◌, ℕ, Bool, true, false, List, Option, Some, None, refl, sym, ap, subst}
use Rattle.store_traits.specs.declared.update_error.UpdateError.TheVariants.{NoMemory}
use Rattle.folder_disk.specs.Contents.{ChangesScratch, Contents, Kept, Scratch}
use Rattle.folder_disk.specs.Due as plan
use Rattle.shelf.specs.declared.store.Store.{Store}
use Rattle.shelf.specs.Rules.{Rules}
use Rattle.shelf.proofs.Bools.{never}
use Rattle.step_table.specs.Calls.{At, Call, Failed, Reading, Reply, SyncingFolder, Writing, is_gone}
use Rattle.step_table.specs.Effects.{Ceases, Comes, Effect, Ends, Faulted, FolderUse, Next, Served, SparesFolder, Unused, Uses, does, gave_by, world_by}
use Rattle.step_table.specs.Requests.{Append, Create, Leaves, ReadMain, Rename, Request, SyncFolder, SyncScratch, call_of}
use Rattle.step_table.specs.Rows.{Row, read_lacks_memory, request_of}
use Rattle.step_table.specs.Turn.{AllowedBy, Turn, dies_now, has_died_by}
use Rattle.step_table.specs.World.{Turned, World, begin}
use Rattle.step_table.specs.declared.progress.Progress.{Progress}
use Rattle.step_table.specs.declared.progress.Progress.TheVariants.{Ended}
use Rattle.step_table.proofs.Choosing.{one_effect}
use Rattle.step_table.proofs.Chosen.{is_faulted}
use Rattle.step_table.proofs.LockLemmas.{same_some}
use Rattle.step_table.proofs.Tallied.{one_tally}
use Rattle.step_table.proofs.Waiting.{is_short}

-- a folder of which only the scratch file has changed
scratch_is : (scratch : Scratch) (old new : Contents) → ChangesScratch scratch old new → new ≡ record old { scratch = scratch }
scratch_is scratch old new it =
    ap (λ (x : Option (List ℕ)). record new { main = x }) it.main
    ∙ (ap (λ (x : Scratch). record new { main = old.main; scratch = x }) it.scratch
    ∙ (ap (λ (x : Kept). record new { main = old.main; scratch = scratch; kept = x }) it.kept
    ∙ (ap (λ (x : Option (List ℕ)). record new { main = old.main; scratch = scratch; kept = old.kept; first = x }) it.first ∙ ap (λ x. record old { scratch = scratch; alone = x }) it.alone)))

-- what a request leaves that goes well
one_left : (request : Request) (old a b : Contents) → Leaves request false old a → Leaves request false old b → a ≡ b
one_left ReadMain old a b x y = x ∙ sym y
one_left Create old a b x y = scratch_is _ old a x ∙ sym (scratch_is _ old b y)
one_left (Append piece) old a b x y = scratch_is _ old a x ∙ sym (scratch_is _ old b y)
one_left SyncScratch old a b x y = scratch_is _ old a x ∙ sym (scratch_is _ old b y)
one_left Rename old a b x y = x ∙ sym y
one_left SyncFolder old a b x y = x ∙ sym y

abbrev IsAsked : Option Request → FolderUse → Type 0
IsAsked asked Unused = asked ≡ None
IsAsked asked (Served request) = asked ≡ Some request
IsAsked asked (Faulted request) = asked ≡ Some request

module _ {V T : Type 0} where
  -- memory lasts
  lasts : (next : Next V T) (gave : Progress (Reply V)) → gave ≡ gave_by next → (gave ≡ Ended (Failed NoMemory) → ⊥) → is_short next ≡ false
  lasts (Ends (Failed NoMemory)) gave is memory = absurd (memory is)
  lasts other gave is memory = refl

  -- what the step asks the folder for
  abbrev pub asked_at : At V T → Option Request
  asked_at (Reading purpose ask) = Some ReadMain
  asked_at (Writing stage plan) = Some (request_of stage plan)
  asked_at (SyncingFolder ending) = Some SyncFolder
  asked_at other = None

-- what two turns gave and left is the same
pub record AreOne {V T : Type 0} (given also : Progress (Reply V)) (x y : World V T) (c d : Call V T) : Type 0 where
  pub gave : given ≡ also
  pub world : x ≡ y
  pub call : c ≡ d

module _ {V T M : Type 0} (r : Rules V T) (s : Store V M) (read_once : (bytes : List ℕ) (a b : V) → r.reads bytes a → r.reads bytes b → a ≡ b) (w : World V T) (told : w.told ≡ true) (c : Call V T) where
  abbrev turn_to : World V T → Call V T → Turned V T
  turn_to now next = record { world = w; call = c; world_after = now; call_after = next }

  abbrev begun : World V T → Call V T → Turned V T
  begun now next = begin (turn_to now next)

  -- a turn of this call in this world gives this
  pub record ComesTo (gave : Progress (Reply V)) (now : World V T) (next : Call V T) : Type 0 where
    pub turn : Turn r s (turn_to now next) gave
    pub memory : gave ≡ Ended (Failed NoMemory) → ⊥
    pub spares : SparesFolder turn.effect.folder w now

  row_asks : {at : At V T} {e : Effect V T} → Row r s w c.id at e → is_short e.next ≡ false → IsAsked (asked_at at) e.folder
  row_asks read_lacks_memory long = never (sym long)
  row_asks other long = refl

  -- whether the call of the folder fails is due
  abbrev is_due : Option Request → Bool
  is_due None = false
  is_due (Some request) = plan.fails (call_of request) w.tally.due

  due_by : (asked : Option Request) (now : World V T) (next : Call V T) (e : Effect V T) (used : FolderUse) → IsAsked asked used → Uses (begun now next) e used → is_faulted used ≡ is_due asked
  due_by asked now next e Unused is it = rw is refl
  due_by asked now next e (Served request) is it = rw is (it.tally.due told).failed
  due_by asked now next e (Faulted request) is it = rw is (it.tally.due told).failed

  module _ (x y : World V T) (c1 c2 : Call V T) where
    -- what the folder leaves is one, and so the world is
    one_world : (used : FolderUse) (e : Effect V T) → Uses (begun x c1) e used → Uses (begun y c2) e used → SparesFolder used w x → SparesFolder used w y
        → world_by (begun x c1) (record e { folder = used }) ≡ world_by (begun y c2) (record e { folder = used })
    one_world Unused e a b spared also = refl
    one_world (Served request) e a b spared also =
        rw (one_left request w.folder x.folder y.folder (a.folder told) (b.folder told), one_tally (call_of request) false w.tally x.tally y.tally (rw told at a.tally) (rw told at b.tally)) refl
    one_world (Faulted request) e a b spared also =
        rw (spared ∙ sym also, one_tally (call_of request) true w.tally x.tally y.tally (rw told at a.tally) (rw told at b.tally)) refl

    -- the rules of every turn come first, then the row
    one_allowed : (gone died dies : Bool) (e f : Effect V T) → AllowedBy r s gone died dies (begun x c1) e → AllowedBy r s gone died dies (begun y c2) f
        → is_short e.next ≡ false → is_short f.next ≡ false → Uses (begun x c1) e e.folder → Uses (begun y c2) f f.folder → e ≡ f
    one_allowed true died dies e f a b long also used too = absurd a
    one_allowed false true dies e f a b long also used too =
        a.is ∙ ap (λ (place : ℕ). does (Ceases place)) (same_some a.place b.place (sym a.last ∙ b.last)) ∙ sym b.is
    one_allowed false false true e f a b long also used too = a ∙ sym b
    one_allowed false false false e f a b long also used too =
        one_effect r s read_once w told c.id e f a b long also
        (due_by (asked_at c.at) x c1 e e.folder (row_asks a long) used ∙ sym (due_by (asked_at c.at) y c2 f f.folder (row_asks b also) too))

    -- two turns come to one
    pub one_turn : (gave also : Progress (Reply V)) → ComesTo gave x c1 → ComesTo also y c2 → AreOne gave also x y c1 c2
    one_turn gave also a b =
        let after = begun y c2 in
        let e : Effect V T = a.turn.effect in
        let f : Effect V T = b.turn.effect in
        let effect : e ≡ f =
        one_allowed (is_gone c.at) (has_died_by (begun x c1)) (dies_now (begun x c1)) e f a.turn.allowed b.turn.allowed (lasts e.next gave a.turn.comes.given a.memory)
        (lasts f.next also b.turn.comes.given b.memory) a.turn.comes.used b.turn.comes.used in
        let comes : Comes after e also = subst (λ (g : Effect V T). Comes after g also) (sym effect) b.turn.comes in
        let spares : SparesFolder e.folder w y = subst (λ (g : Effect V T). SparesFolder g.folder w y) (sym effect) b.spares in
        record {
          gave = a.turn.comes.given ∙ sym comes.given;
          world = a.turn.comes.world ∙ one_world e.folder e a.turn.comes.used comes.used a.spares spares ∙ sym comes.world;
          call = a.turn.comes.call ∙ sym comes.call;
        }
