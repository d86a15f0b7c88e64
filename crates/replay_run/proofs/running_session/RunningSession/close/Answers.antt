use Rattle.std.proofs.Common.{◌∙◌, ap}
use Rattle.folder_disk.specs.MemFolder.{contents_of}
use Rattle.script_lang.specs.Good.{file_seen}
use Rattle.replay_run.specs.Settings.{ScriptFolder}
use Rattle.replay_run.proofs.session.ToldLines.{answers_told}
use Rattle.replay_run.proofs.running_session.RunningSession.close.Goals as goal

pub returns-clause-tells : goal.returns-clause-tells
returns-clause-tells c =
    let parts = c.into_parts-parts in
    record {
      answers = c.new.ensures ∙ (c.in_ok-answers.ensures ∙ answers_told c.args.self.clients.items c.requires);
      entries = ap (λ journal. journal.list) parts.ensures.journal;
      file = c.in_ok-file.ensures ∙ ap (λ main. file_seen 1048576 main) (c.main.ensures ∙ (ap (λ folder. (contents_of folder).main) c.inner.ensures.lent ∙ ap (λ (folder : ScriptFolder). (contents_of folder.inner).main) parts.ensures.folder));
    }
