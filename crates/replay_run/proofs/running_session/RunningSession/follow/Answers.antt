use Rattle.std.proofs.Common.{◌≡◌, ◌∙◌, ◌≤◌, ◌+◌, ◌∷◌, ◌++◌, [], take, length, vec_len, refl, sym, ap, subst, arith}
use Rattle.std.proofs.Math.Seq.{take-length}
use Rattle.std.proofs.lemmas.List.{take_more}
use Rattle.std.proofs.lemmas.Option.{slice_get_read}
use Rattle.replay_run.specs.Lines.{Follows, FollowsAll}
use Rattle.replay_run.specs.SessionSteps.{CanFollow}
use Rattle.replay_run.specs.SessionView.{rules_in, state_in, store_in}
use Rattle.replay_run.specs.Settings.{PrefStore}
use Rattle.replay_run.proofs.lists.SetViews.{all_found}
use Rattle.replay_run.proofs.session.SessionAsked.{few_within}
use Rattle.replay_run.proofs.work.RunLemmas.{follows_none, follows_push}
use Rattle.replay_run.proofs.running_session.RunningSession.follow.Goals as goal

pub loop-line-init : goal.loop-line-init
loop-line-init c =
    let old = c.args.self.now in
    record {
      follows = follows_none (rules_in old.shelf) (store_in old.shelf) (state_in old);
      keeps = c.requires.keeps;
      few = c.requires.asked;
      store = refl;
      clients = refl;
    }

pub follow_line-requires-clause-keeps : goal.follow_line-requires-clause-keeps
follow_line-requires-clause-keeps c = c.loop-line.invariant.keeps

pub follow_line-requires-clause-few : goal.follow_line-requires-clause-few
follow_line-requires-clause-few c =
    let within : c.loop-line.line-index ≤ 100000 = omega (arith, c.loop-line-test.true, c.requires.few) in
    few_within c.loop-line.line-index 100000 c.loop-line.self within c.loop-line.invariant.few

pub follow_line-requires-clause-line : goal.follow_line-requires-clause-line
follow_line-requires-clause-line c =
    let old = c.args.self.now in
    let line = c.line-item.result in
    let found = slice_get_read c.args.lines.now (length c.args.lines.now) c.loop-line.line-index line refl c.loop-line-test.true c.line-item.is in
    let can = all_found (CanFollow (vec_len old.clients) (store_in old.shelf).nodes) c.args.lines.now c.loop-line.line-index line found c.requires.lines in
    subst (λ (s : PrefStore). CanFollow (vec_len c.loop-line.self.clients) s.nodes line) (sym c.loop-line.invariant.store) (subst (λ n. CanFollow n (store_in old.shelf).nodes line) (sym c.loop-line.invariant.clients) can)

pub returns-in_err-follow_line-clause-store : goal.returns-in_err-follow_line-clause-store
returns-in_err-follow_line-clause-store c = c.follow_line.ensures.store ∙ c.loop-line.invariant.store

pub loop-line-preserved : goal.loop-line-preserved
loop-line-preserved c =
    let old = c.args.self.now in
    let mid = c.loop-line.self in
    let new = c.follow_line.new.self in
    let line = c.line-item.result in
    let it = c.loop-line.invariant in
    let follows = subst (λ (s : PrefStore). Follows (rules_in old.shelf) s line.client.0 line.act (state_in mid) (state_in new)) it.store c.in_ok-follow_line.ensures.follows in
    let i = c.loop-line.line-index in
    let more : take (i + 1) c.args.lines.now ≡ take i c.args.lines.now ++ line ∷ [] = take_more c.args.lines.now i line c.loop-line-test.true ∙ ap (λ x. take i c.args.lines.now ++ x ∷ []) (sym c.line-item.is) in
    record {
      follows =
          subst (λ lines. FollowsAll (rules_in old.shelf) (store_in old.shelf) lines (state_in old) (state_in new)) (sym more)
          (follows_push (rules_in old.shelf) (store_in old.shelf) (take i c.args.lines.now) line (state_in old) (state_in mid) (state_in new) it.follows follows);
      keeps = c.in_ok-follow_line.ensures.keeps;
      few = c.in_ok-follow_line.ensures.few c.loop-line.line-index it.few;
      store = c.follow_line.ensures.store ∙ it.store;
      clients = c.follow_line.ensures.clients ∙ it.clients;
    }

pub returns-clause-follows : goal.returns-clause-follows
returns-clause-follows c =
    let old = c.args.self.now in
    let end : c.loop-line.line-index ≡ length c.args.lines.now = omega (arith, c.loop-line-test.false, c.loop-line.auto.line-index-end) in
    let all = ap (λ n. take n c.args.lines.now) end ∙ take-length c.args.lines.now in
    subst (λ lines. FollowsAll (rules_in old.shelf) (store_in old.shelf) lines (state_in old) (state_in c.loop-line.self)) all c.loop-line.invariant.follows

pub returns-clause-keeps : goal.returns-clause-keeps
returns-clause-keeps c = c.loop-line.invariant.keeps

pub returns-clause-few : goal.returns-clause-few
returns-clause-few c =
    let within : c.loop-line.line-index ≤ 100000 = omega (arith, c.loop-line.auto.line-index-end, c.requires.few) in
    few_within c.loop-line.line-index 100000 c.loop-line.self within c.loop-line.invariant.few

pub returns-clause-store : goal.returns-clause-store
returns-clause-store c = c.loop-line.invariant.store
