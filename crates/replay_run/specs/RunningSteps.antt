-- A turn of a call that runs, whatever it asks for.
use Rattle.std.specs.Prelude.{Option}
use Rattle.store_traits.specs.declared.codec.Codec as codec_trait
use Rattle.store_traits.specs.declared.transform.Transform as transform_trait
use Rattle.folder_disk.specs.declared.folder.Folder as folder_trait
use Rattle.prefs_proto.specs.declared.prefs_codec.PrefsCodec.{PrefsCodec}
use Rattle.shelf.specs.declared.shelf.Shelf.{Shelf}
use Rattle.shelf.specs.ShelfSeen.{shelf_seen}
use Rattle.step_table.specs.Calls as table
use Rattle.step_table.specs.Calls.{Call, reply_of}
use Rattle.step_table.specs.declared.progress.Progress.{Progress}
use Rattle.step_table.specs.declared.progress.Progress.TheVariants.{Moved, Blocked, Ended}
use Rattle.node_core.specs.declared.origin.Origin.{Origin}
use Rattle.node_core.specs.Restarting.{reply_of_restart}
use Rattle.node_core.specs.Step.{MayStep, StepsTo}
use Rattle.node_core.specs.Steps.{reply_of_read}
use Rattle.node_core.specs.Views.{kept_by_read, kept_in}
use Rattle.replay_run.specs.declared.prefs_parts.PrefsParts.{PrefsParts}
use Rattle.replay_run.specs.declared.running.Reply.{Reply}
use Rattle.replay_run.specs.declared.running.Reply.TheVariants as reply
use Rattle.replay_run.specs.declared.running.Running.{Running}
use Rattle.replay_run.specs.declared.running.Running.TheVariants as running
use Rattle.replay_run.specs.SessionView.{running_seen}
use Rattle.replay_run.specs.Settings.{Change, PrefCached, PrefCall, ScriptFolder, Value}

abbrev pub reply_seen : Reply → table.Reply Value
reply_seen (reply.Updated answer) = reply_of answer
reply_seen (reply.Gave answer) = reply_of_read answer
reply_seen (reply.Restarted answer) = reply_of_restart answer

abbrev pub replied_so : Progress Reply → Progress (table.Reply Value)
replied_so Moved = Moved
replied_so Blocked = Blocked
replied_so (Ended reply) = Ended (reply_seen reply)

-- what is still to be published
abbrev pub kept_of : Running → Option PrefCached
kept_of (running.Update call) = kept_in call.state
kept_of (running.Read call) = kept_by_read call.state

abbrev pub origin_of : PrefCall → Origin
origin_of call = record { call = call.id; since = call.since }

module _ {c : codec_trait.Ghosts PrefsCodec Value} {t : transform_trait.Ghosts Change Value} {f : folder_trait.Ghosts ScriptFolder} where
  abbrev pub CallMayStep : Running → Shelf (PrefsParts ScriptFolder) PrefsCodec Change ScriptFolder Value c t f → Type 0
  CallMayStep call shelf = MayStep c t f (origin_of (running_seen call)) (running_seen call).at (shelf_seen shelf)

  abbrev pub CallSteps : Running → Shelf (PrefsParts ScriptFolder) PrefsCodec Change ScriptFolder Value c t f → Progress (table.Reply Value) → Running → Shelf (PrefsParts ScriptFolder) PrefsCodec Change ScriptFolder Value c t f → Type 0
  CallSteps old shelf gave new shelf_after =
      StepsTo c t f (origin_of (running_seen old)) (running_seen old).at (shelf_seen shelf) gave (origin_of (running_seen new)) (running_seen new).at (shelf_seen shelf_after)
