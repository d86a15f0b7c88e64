use Rattle.std.proofs.Common.{◌≡◌, ◌∙◌, arith, get_or}
use Rattle.std.specs.Prelude.{codes}
use Rattle.script_lang.proofs.NameRows.{client_unknown, client_taken, client_too_many, client_barred, client_said}
use Rattle.script_lang.proofs.TestLemmas.{refuted, same_text}
use Rattle.script_lang.proofs.WordLemmas.{no_word, three_texts}
use Rattle.script_lang.proofs.parsing.name_rows.read_client.Goals as goal

pub returns-in_default-find : goal.returns-in_default-find
returns-in_default-find c =
    let on : (get_or c.args.behind.now 1 no_word).now ≡ codes "on" = same_text _ _ _ c.ne.ensures c.if-ne.false in
    rw (three_texts c.args.behind.now c.in-len3.len_at_least c.in-len3.len_below, on)
    (client_unknown c.args.draft.now _ (c.is_name.ensures.0 c.if-not-is_name.false) _ c.in_default-find.ensures)

pub returns-then-is_taken : goal.returns-then-is_taken
returns-then-is_taken c =
    let on : (get_or c.args.behind.now 1 no_word).now ≡ codes "on" = same_text _ _ _ c.ne.ensures c.if-ne.false in
    rw (three_texts c.args.behind.now c.in-len3.len_at_least c.in-len3.len_below, on)
    (client_taken c.args.draft.now _ (c.is_name.ensures.0 c.if-not-is_name.false) _ (record { 0 = c.in-Some.home }) c.in-Some.ensures (c.is_taken.ensures.0 c.if-is_taken.true))

pub returns-then-len-ge-MAX_CLIENTS : goal.returns-then-len-ge-MAX_CLIENTS
returns-then-len-ge-MAX_CLIENTS c =
    let on : (get_or c.args.behind.now 1 no_word).now ≡ codes "on" = same_text _ _ _ c.ne.ensures c.if-ne.false in
    rw (three_texts c.args.behind.now c.in-len3.len_at_least c.in-len3.len_below, on)
    (client_too_many c.args.draft.now _ (c.is_name.ensures.0 c.if-not-is_name.false) _ (record { 0 = c.in-Some.home }) c.in-Some.ensures (refuted _ _ c.is_taken.ensures.1 c.if-is_taken.false) (omega arith))

pub returns-then-follows_other : goal.returns-then-follows_other
returns-then-follows_other c =
    let on : (get_or c.args.behind.now 1 no_word).now ≡ codes "on" = same_text _ _ _ c.ne.ensures c.if-ne.false in
    rw (three_texts c.args.behind.now c.in-len3.len_at_least c.in-len3.len_below, on)
    (client_barred c.args.draft.now _ (c.is_name.ensures.0 c.if-not-is_name.false) _ (record { 0 = c.in-Some.home }) c.in-Some.ensures (refuted _ _ c.is_taken.ensures.1 c.if-is_taken.false) (λ many. omega arith) (c.follows_other.ensures.0 c.if-follows_other.true))

pub returns : goal.returns
returns c =
    let named = c.new.ensures ∙ c.in_ok-text.ensures.ok in
    let on : (get_or c.args.behind.now 1 no_word).now ≡ codes "on" = same_text _ _ _ c.ne.ensures c.if-ne.false in
    rw (three_texts c.args.behind.now c.in-len3.len_at_least c.in-len3.len_below, on, named)
    (client_said c.args.draft.now _ (c.is_name.ensures.0 c.if-not-is_name.false) _ (record { 0 = c.in-Some.home }) c.in-Some.ensures (refuted _ _ c.is_taken.ensures.1 c.if-is_taken.false) (λ many. omega arith) (refuted _ _ c.follows_other.ensures.1 c.if-follows_other.false))
