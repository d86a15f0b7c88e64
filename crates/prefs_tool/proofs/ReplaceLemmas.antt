-- The calls by which a text becomes main, and what the folder holds where they stop.
use Rattle.std.proofs.Common.{◌≡◌, ◌∙◌, ◌⊎◌, ◌≤◌, ◌++◌, ℕ, Bool, true, false, List, [], ◌∷◌, Option, Result, Ok, Err, inl, inr, length, ap, subst}
use Rattle.folder_disk.specs.declared.call.FolderCall.TheVariants.{Create, SyncScratch, Rename, SyncFolder}
use Rattle.folder_disk.specs.Calls.{Makes}
use Rattle.folder_disk.specs.Contents.{Contents, Kept, Scratch, Synced, folder_synced, renamed}
use Rattle.folder_disk.specs.Due.{Due}
use Rattle.folder_disk.specs.Seen.{FolderSeen}
use Rattle.folder_disk.specs.Tally.{AsDue, Tally}
use Rattle.folder_disk.proofs.CallLemmas.{makes_more, makes_one, makes_part}
use Rattle.prefs_model.specs.declared.pref_pair.PrefPair.{PrefPair}
use Rattle.prefs_proto.specs.Encoded.{encoded}
use Rattle.prefs_tool.specs.Folder.{SparesMain, Untouched, append_calls, fill_calls, replaced, write_calls}
use Rattle.prefs_tool.specs.Reading.{file_limit}
use Rattle.prefs_tool.specs.Replacing.{ReplacesMain, StopsWriting, StoresMap, Written}
use Rattle.prefs_tool.specs.declared.tool_error.ToolError.{ToolError}
use Rattle.prefs_tool.specs.declared.tool_error.ToolError.TheVariants.{Storage, NoMemory}

-- ---- filling the scratch file

pub create_failed : (len : ℕ) (old new : Tally) → AsDue Create true old new → Makes (fill_calls len) true old.due new.due
create_failed len old new created = makes_part (Create ∷ []) (append_calls len ++ (SyncScratch ∷ [])) old.due new.due (makes_one Create true old new created)

pub appending_failed : (len : ℕ) (old begun : Tally) (new : Due) → AsDue Create false old begun → Makes (append_calls len) true begun.due new → Makes (fill_calls len) true old.due new
appending_failed len old begun new created appended =
    makes_more (Create ∷ []) (append_calls len ++ (SyncScratch ∷ [])) true old.due begun.due new (makes_one Create false old begun created)
    (makes_part (append_calls len) (SyncScratch ∷ []) begun.due new appended)

pub filled_or_not : (len : ℕ) (has_failed : Bool) (old begun filled new : Tally) → AsDue Create false old begun → Makes (append_calls len) false begun.due filled.due
    → AsDue SyncScratch has_failed filled new → Makes (fill_calls len) has_failed old.due new.due
filled_or_not len has_failed old begun filled new created appended synced =
    makes_more (Create ∷ []) (append_calls len ++ (SyncScratch ∷ [])) has_failed old.due begun.due new.due (makes_one Create false old begun created)
    (makes_more (append_calls len) (SyncScratch ∷ []) has_failed begun.due filled.due new.due appended (makes_one SyncScratch has_failed filled new synced))

-- ---- moving it over main

-- a folder whose scratch file is this text
pub record HasScratch (text : List ℕ) (old now : Contents) : Type 0 where
  pub spared : SparesMain old now
  pub scratch : now.scratch ≡ Synced text

abbrev holding : Option (List ℕ) → Scratch → Kept → Option (List ℕ) → Bool → Contents
holding main scratch kept first alone = record { main = main; scratch = scratch; kept = kept; first = first; alone = alone }

same_parts : (m n : Option (List ℕ)) (s t : Scratch) (k l : Kept) (f g : Option (List ℕ)) (a b : Bool)
    → m ≡ n → s ≡ t → k ≡ l → f ≡ g → a ≡ b → holding m s k f a ≡ holding n t l g b
same_parts m n s t k l f g a b main scratch kept first alone = cc

renamed_is : (text : List ℕ) (old now : Contents) → HasScratch text old now → renamed now ≡ replaced text old
renamed_is text old now has =
    let same : now ≡ record old { scratch = Synced text } =
    same_parts now.main old.main now.scratch (Synced text) now.kept old.kept now.first old.first now.alone old.alone
    has.spared.main has.scratch has.spared.kept has.spared.first has.spared.alone in
    ap renamed same

module _ (text : List ℕ) (old filled : FolderSeen) where
  -- the scratch file was not filled
  pub filling_failed : SparesMain old.contents filled.contents → Makes (fill_calls (length text)) true old.tally.due filled.tally.due → StopsWriting text old filled
  filling_failed spared made = record { place = inl spared; made = makes_part (fill_calls (length text)) (Rename ∷ SyncFolder ∷ []) old.tally.due filled.tally.due made }

  module _ (has : HasScratch text old.contents filled.contents) (made : Makes (fill_calls (length text)) false old.tally.due filled.tally.due) where
    behind_filling : (has_failed : Bool) (new : Due) → Makes (Rename ∷ SyncFolder ∷ []) has_failed filled.tally.due new → Makes (write_calls (length text)) has_failed old.tally.due new
    behind_filling has_failed new next = makes_more (fill_calls (length text)) (Rename ∷ SyncFolder ∷ []) has_failed old.tally.due filled.tally.due new made next

    pub rename_failed : (new : FolderSeen) → SparesMain old.contents new.contents → AsDue Rename true filled.tally new.tally → StopsWriting text old new
    rename_failed new spared moved = record {
      place = inl spared;
      made = behind_filling true new.tally.due (makes_part (Rename ∷ []) (SyncFolder ∷ []) filled.tally.due new.tally.due (makes_one Rename true filled.tally new.tally moved));
    }

    moved_and : (has_failed : Bool) (moved new : Tally) → AsDue Rename false filled.tally moved → AsDue SyncFolder has_failed moved new
        → Makes (write_calls (length text)) has_failed old.tally.due new.due
    moved_and has_failed moved new renaming syncing =
        behind_filling has_failed new.due (makes_more (Rename ∷ []) (SyncFolder ∷ []) has_failed filled.tally.due moved.due new.due
        (makes_one Rename false filled.tally moved renaming) (makes_one SyncFolder has_failed moved new syncing))

    pub keeping_failed : (moved new : FolderSeen) → moved.contents ≡ renamed filled.contents → new.contents ≡ moved.contents
        → AsDue Rename false filled.tally moved.tally → AsDue SyncFolder true moved.tally new.tally → StopsWriting text old new
    keeping_failed moved new is same renaming syncing = record {
      place = inr (same ∙ is ∙ renamed_is text old.contents filled.contents has);
      made = moved_and true moved.tally new.tally renaming syncing;
    }

    pub is_written : (moved new : FolderSeen) → moved.contents ≡ renamed filled.contents → new.contents ≡ folder_synced moved.contents
        → AsDue Rename false filled.tally moved.tally → AsDue SyncFolder false moved.tally new.tally → Written text old new
    is_written moved new is synced renaming syncing = record {
      contents = synced ∙ ap folder_synced (is ∙ renamed_is text old.contents filled.contents has);
      made = moved_and false moved.tally new.tally renaming syncing;
    }

-- ---- since before memory was taken, which asks nothing of the folder

pub stops_since : (text : List ℕ) (old middle new : FolderSeen) → Untouched old middle → StopsWriting text middle new → StopsWriting text old new
stops_since text old middle new same stops = record {
  place = subst (λ (c : Contents). SparesMain c new.contents ⊎ (new.contents ≡ replaced text c)) same.contents stops.place;
  made = subst (λ (due : Due). Makes (write_calls (length text)) true due new.tally.due) same.made.due stops.made;
}

pub written_since : (text : List ℕ) (old middle new : FolderSeen) → Untouched old middle → Written text middle new → Written text old new
written_since text old middle new same written = record {
  contents = written.contents ∙ ap (λ (c : Contents). folder_synced (replaced text c)) same.contents;
  made = subst (λ (due : Due). Makes (write_calls (length text)) false due new.tally.due) same.made.due written.made;
}

-- ---- the text of a map

pub stores_text : {T : Type 0} (pairs : List PrefPair) (text : List ℕ) (old new : FolderSeen) (result : Result T ToolError) → text ≡ encoded pairs
    → length (encoded pairs) ≤ file_limit → ReplacesMain text old result new → StoresMap pairs old result new
stores_text pairs text old new (Ok done) is short replaces = (short, λ told. subst (λ (t : List ℕ). Written t old new) is (replaces told))
stores_text pairs text old new (Err Storage) is short replaces = (short, λ told. subst (λ (t : List ℕ). StopsWriting t old new) is (replaces told))
stores_text pairs text old new (Err NoMemory) is short replaces = replaces
stores_text pairs text old new (Err e) is short replaces = absurd replaces
