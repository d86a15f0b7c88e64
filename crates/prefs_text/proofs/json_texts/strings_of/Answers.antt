-- The item that is no string stands among the items.
use Rattle.std.proofs.lemmas.Iterator.Adapters.{YieldsList-from_vec}
use Rattle.std.proofs.lemmas.Iterator.Consumers.{YieldsList-turn}
use Rattle.std.proofs.Common.{length, rules}
use Rattle.prefs_text.proofs.Strings.{other_item}
use Rattle.prefs_text.proofs.json_texts.strings_of.Goals as goal

pub returns-in_default : goal.returns-in_default
returns-in_default c =
    let items = c.args.items.items in
    let turn = YieldsList-turn (YieldsList-from_vec {s = c.into_iter-item-iterator.result} items (search rules) (search rules)) c.loop-item.yielded c.loop-item.item-iterator c.loop-item.yielded_by _ c.next.new.self c.in-Some.item c.in-Some.is c.next.ensures.steps in
    record { ok = tt; err = λ texts e. other_item items (length c.loop-item.yielded) c.in-Some.item texts turn.0 turn.1 c.in_default.not-String e }
