-- A read of main: where it gives no value it ends the call, whatever that reads main for; a read gives the value.
use Rattle.std.proofs.Common.{◌≡◌, inl, inr, ◌∙◌, ℕ, [], None, IfSome, IsTrue}
use Rattle.store_traits.specs.declared.codec.Codec as codec_trait
use Rattle.store_traits.specs.declared.given.Given.{Given}
use Rattle.store_traits.specs.declared.read_error.ReadError.{ReadError}
use Rattle.store_traits.specs.declared.read_error.ReadError.TheVariants as read
use Rattle.store_traits.specs.declared.transform.Transform as transform_trait
use Rattle.store_traits.specs.declared.update_error.UpdateError.TheVariants as error
use Rattle.folder_disk.specs.declared.folder.Folder as folder_trait
use Rattle.shelf.specs.declared.answers.Loaded.{Loaded}
use Rattle.shelf.specs.declared.answers.Loaded.TheVariants.{Corrupt, TooLong, NoMemory}
use Rattle.shelf.specs.Base.{ReadsAs}
use Rattle.shelf.specs.Loading.{Asks, LoadRow, base_of}
use Rattle.shelf.specs.ShelfSeen.{ShelfSeen}
use Rattle.shelf.specs.ShelfTurns.{Frees}
use Rattle.step_table.specs.declared.progress.Progress.TheVariants.{Ended}
use Rattle.step_table.specs.Calls.{Failed, Gave, Gone, Purpose, Read, Reading, Reply}
use Rattle.step_table.specs.Effects.{Ends, asking, does}
use Rattle.step_table.specs.Requests.{ReadMain}
use Rattle.step_table.specs.Rows.{gives, lacks_memory, read_lacks_memory, too_long, unreadable}
use Rattle.node_core.specs.declared.origin.Origin.{Origin}
use Rattle.node_core.specs.ReadMain.{EndsRead, HasRead, ReadFails}
use Rattle.node_core.specs.Steps.{Steps}
use Rattle.node_core.proofs.RowLemmas.{Line, ends, ends_behind, then_frees}

-- the read is a reason to end
abbrev pub Stops : {V : Type 0} → Loaded V → ReadError → Type 0
Stops Corrupt error = error ≡ read.Corrupt
Stops (TooLong len) error = error ≡ read.FileTooLong len
Stops NoMemory error = error ≡ read.NoMemory
Stops other error = ⊥

module _ {C F V T : Type 0} (c : codec_trait.Ghosts C V) (t : transform_trait.Ghosts T V) (f : folder_trait.Ghosts F) (origin : Origin) (old mid new : ShelfSeen C F V T) (frees : Frees origin.call [] mid new) (same : new.folder ≡ mid.folder)
    (contents : IsTrue f.told → f.contents mid.folder ≡ f.contents old.folder) (handler : old.store.handler ≡ None) where
  pub read_stops : (count : ℕ) (loaded : Loaded V) (error : ReadError) → Stops loaded error → LoadRow origin.call count loaded old mid
      → (IsTrue f.told → IfSome (base_of loaded) (λ base. ReadsAs (c.reads old.codec) (c.default_of old.codec) old.store.limits.file (f.contents old.folder).main base)) → Asks f.told f.tally loaded old.folder mid.folder → ReadFails c t f origin error old new
  read_stops count Corrupt error is adds reads asks =
      λ purpose ask. rw is (ends_behind c t f origin (Reading purpose ask) old new mid (unreadable reads handler) adds (record { folder = contents; spared = λ told spares. tt; tally = asks }) frees same)
  read_stops count (TooLong len) error is adds reads asks =
      λ purpose ask. rw is (ends_behind c t f origin (Reading purpose ask) old new mid (too_long reads) adds (record { folder = contents; spared = λ told spares. tt; tally = asks }) frees same)
  read_stops count NoMemory error is adds reads asks =
      λ purpose ask.
      elim asks [
        | inl untouched ↦ rw is (ends c t f origin (Reading purpose ask) old new read_lacks_memory (then_frees adds frees) (same ∙ untouched))
        | inr asked ↦ rw is (ends_behind c t f origin (Reading purpose ask) old new mid lacks_memory adds (record { folder = contents; spared = λ told spares. tt; tally = asked }) frees same)
      ]
  read_stops count other error is adds reads asks = absurd is

-- main was read, the lock is freed, and the call of a read ends
module _ {C F V T : Type 0} (c : codec_trait.Ghosts C V) (t : transform_trait.Ghosts T V) (f : folder_trait.Ghosts F) (origin : Origin) (given : Given V) (old mid new : ShelfSeen C F V T) (read : HasRead c t f origin given old mid)
    (frees : Frees origin.call [] mid new) (same : new.folder ≡ mid.folder) where
  ends_by : (purpose : Purpose) (reply : Reply V) → Line c t f origin (Reading purpose Read) old (asking ReadMain (does (Ends reply))) → Steps c t f origin (Reading purpose Read) old (Ended reply) Gone new
  ends_by purpose reply line = ends_behind c t f origin (Reading purpose Read) old new mid line read.same (record { folder = read.contents; spared = λ told spares. tt; tally = read.tally }) frees same

  -- it gives the value
  pub gives_value : EndsRead c t f origin (Gave given.edition given.value.value) old new
  gives_value purpose serves = rw read.reached (ends_by purpose _ (gives serves read.reads))

  -- or lacks memory for one more owner of it
  pub has_no_owner : EndsRead c t f origin (Failed error.NoMemory) old new
  has_no_owner purpose serves = ends_by purpose _ lacks_memory
