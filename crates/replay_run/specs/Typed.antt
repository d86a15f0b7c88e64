-- What the types of keys and of values promise of the edits of a script.
use Rattle.std.specs.Prelude.{All}
use Rattle.prefs_edit.specs.Laws.{IsStep}
use Rattle.script_lang.specs.declared.plan.run_line.Act.{Act}
use Rattle.script_lang.specs.declared.plan.run_line.Act.TheVariants as act
use Rattle.script_lang.specs.declared.plan.script.Script.{Script}
use Rattle.replay_run.specs.Settings.{Change}

abbrev pub AreSteps : Change → Type 0
AreSteps edit = All IsStep edit

abbrev pub IsTypedAct : Act → Type 0
IsTypedAct (act.Update edit) = AreSteps edit
IsTypedAct (act.Post edit) = AreSteps edit
IsTypedAct other = Unit {0}

abbrev pub IsTyped : Script → Type 0
IsTyped script = All (λ plan. All (λ line. IsTypedAct line.act) plan.lines) script.sessions
