-- What a call has told of, and what it is for, as others add entries.
use Rattle.std.proofs.Common.{◌∙◌, List, ◌++◌}
use Rattle.store_traits.specs.declared.ids.CallId.{CallId}
use Rattle.prefs_text.specs.EntryText.{PrefEntry}
use Rattle.shelf.specs.Meanwhile.{NoneOf}
use Rattle.shelf.proofs.MeanwhileLemmas as meanwhile
use Rattle.step_table.specs.Calls.{At, Changed, Read, SyncingFolder, Update}
use Rattle.node_core.specs.Own.{OwnEntries, is_late}
use Rattle.node_core.proofs.BetweenLemmas.{has_changed-more}
use Rattle.node_core.proofs.ForLemmas.{still_for}
use Rattle.script_lang.specs.declared.plan.run_line.Act.{Act}
use Rattle.script_lang.specs.declared.plan.run_line.Act.TheVariants as act
use Rattle.replay_run.specs.ClientInvariant.{IsForAct}
use Rattle.replay_run.specs.Settings.{Change, Value}

module _ (call : CallId) (list more : List PrefEntry) (others : NoneOf call more) where
  pub entries_more : (at : At Value Change) → OwnEntries call at list → OwnEntries call at (list ++ more)
  entries_more (SyncingFolder (Changed place)) changed = has_changed-more call place list more others changed
  entries_more other early = meanwhile.own is_late call list more others ∙ early

  pub for_more : (asked : Act) (at : At Value Change) → IsForAct call asked at list → IsForAct call asked at (list ++ more)
  for_more (act.Update edit) at so = still_for call (Update edit) at list more others so
  for_more act.Read at so = still_for call Read at list more others so
  for_more (act.Restart node) at so = so
  for_more other at so = absurd so
