-- Which editions the answers of a session show to their clients.
use Rattle.std.specs.Prelude.{ℕ, ◌==◌, ◌&&◌, nat_le, max, List, [], ◌∷◌, take, length, Option, Some, None, unwrap_or, if◌then◌else◌}
use Rattle.store_traits.specs.declared.ids.ClientId.{ClientId}
use Rattle.prefs_text.specs.EntryText.{PrefEntry}
use Rattle.prefs_text.specs.declared.seen.AnswerLineSeen.{AnswerLineSeen}
use Rattle.prefs_text.specs.declared.seen.AnswerSeen.{AnswerSeen}
use Rattle.prefs_text.specs.declared.seen.AnswerSeen.TheVariants.{Updated, Read, Flow, Unchanged, Refused, StorageFault, NotDurable, LegacyFault, Restarted}
use Rattle.hist_journal.specs.Folds.{edition_of}

-- the edition that an answer prints
abbrev pub printed : AnswerSeen → Option ℕ
printed (Updated edition) = Some edition
printed (Read edition map) = Some edition
printed (Flow edition map) = Some edition
printed (Unchanged edition) = Some edition
printed (Refused code edition) = Some edition
printed other = None

-- the edition up to the entry at this place, counted from 1, if there is one
abbrev pub edition_up_to : List PrefEntry → ℕ → Option ℕ
edition_up_to entries place = if nat_le 1 place && nat_le place (length entries) then Some (edition_of (take place entries)) else None

-- the edition that an answer shows: the printed one, or that up to its entry
abbrev pub shown_by : List PrefEntry → AnswerSeen → Option ℕ
shown_by entries (StorageFault at) = edition_up_to entries at
shown_by entries (NotDurable at) = edition_up_to entries at
shown_by entries (LegacyFault at) = edition_up_to entries at
shown_by entries (Restarted at) = edition_up_to entries at
shown_by entries other = printed other

-- the greatest edition that these answers show to the client; 0 where they show none
unfoldable pub shown_to : ClientId → List PrefEntry → List AnswerLineSeen → ℕ
shown_to client entries [] = 0
shown_to client entries (line ∷ lines) =
    if client.0 == line.call.client.0 then max (unwrap_or (shown_by entries line.answer) 0) (shown_to client entries lines) else shown_to client entries lines

abbrev pub flow_edition : Option ℕ → AnswerSeen → Option ℕ
flow_edition so_far (Flow edition map) = Some edition
flow_edition so_far other = so_far

-- the edition of the client's last flow answer among these, or what is said of none
unfoldable pub last_flow : ClientId → Option ℕ → List AnswerLineSeen → Option ℕ
last_flow client so_far [] = so_far
last_flow client so_far (line ∷ lines) = last_flow client (if client.0 == line.call.client.0 then flow_edition so_far line.answer else so_far) lines
