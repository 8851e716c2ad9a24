-- Each call's contract makes the history longer, and each answer is computed from the definitions.
use Rattle.std.proofs.Common.{◌≡◌, ◌^◌, replicate, refl, ap, ◌∙◌, subst}
use Rattle.kinds.specs.Costs.{costs}
use Rattle.orders.specs.LoopOrder.{loop_at}
use Rattle.orders.specs.RecursiveOrder.{recursive_at}
use Rattle.paths.specs.Calls.{settled, post_answer, withdraw_answer}
use Rattle.paths.specs.History.{made, posted, withdrawn, settled_by, reopened, Leads, Longer}
use Rattle.board.specs.WholeWay.{one, five, seven, nine, ten}
use Rattle.board.proofs.WholeWayComputed.{takes_first, takes_second, refuses_same, shows_first, takes_better, shows_better, takes_withdrawal, shows_last, Stands, called, posting, settles, answered, shows}
use Rattle.board.proofs.whole_way.whole_way.Goals as goal

pub returns : goal.returns
returns c =
    let x0 = c.make-draft.result.ground.now in
    let x1 = c.post-first_link.new.self.ground.now in
    let x2 = c.post-second_link.new.self.ground.now in
    let x3 = c.post-same_site.new.self.ground.now in
    let x4 = c.settle-board.result.ground.now in
    let x5 = c.post-better_link.new.self.ground.now in
    let x6 = c.reopen-reopened.result.ground.now in
    let x7 = c.withdraw-withdrawn.new.self.ground.now in
    let x8 = c.settle-again.result.ground.now in
    let s0 : Stands made c.make-draft.result.exponent x0 = record {
      two = c.make-draft.ensures.exponent;
      leads = subst (λ x. Leads costs 2 (replicate 32 x) made x0) (c.new-ground.ensures.only seven refl) c.make-draft.ensures.history;
    } in
    let s1 = posting x1 0 1 (c.new.ensures.only ten refl) s0 c.post-first_link.ensures.exponent c.post-first_link.ensures.history in
    let s2 = posting x2 1 2 (c.new-2.ensures.only five refl) s1 c.post-second_link.ensures.exponent c.post-second_link.ensures.history in
    let s3 = posting x3 1 1 (c.new-3.ensures.only one refl) s2 c.post-same_site.ensures.exponent c.post-same_site.ensures.history in
    let first = settles recursive_at c.of_four.result.size.exponent _ x3 x4 c.of_four.ensures c.settle-board.ensures.history in
    let s4 = called (λ h. settled_by h 2 2 (recursive_at 2) first.lawful) x4 s3 c.settle-board.ensures.exponent first.longer in
    let r4 : c.settle-board.result.relays.word ≡ 2 = c.settle-board.ensures.relays in
    let r5 : c.post-better_link.new.self.relays.word ≡ 2 = ap (λ r. r.word) c.post-better_link.ensures.relays ∙ r4 in
    let e4 = c.settle-board.result.exponent in
    let h5 : Longer costs e4 {s = settled 2} (λ h. posted h 0 2 c.new-5.result) x4 x5 =
    subst (λ w. Longer costs e4 {s = settled w} (λ h. posted h 0 2 c.new-5.result) x4 x5) r4 c.post-better_link.ensures.history in
    let s5 = posting x5 0 2 (c.new-5.ensures.only nine refl) s4 c.post-better_link.ensures.exponent h5 in
    let e5 = c.post-better_link.new.self.exponent in
    let h6 : Longer costs e5 {s = settled 2} reopened x5 x6 =
    subst (λ w. Longer costs e5 {s = settled w} reopened x5 x6) r5 c.reopen-reopened.ensures.history in
    let s6 = called reopened x6 s5 c.reopen-reopened.ensures.exponent h6 in
    let s7 = called (λ h. withdrawn h 0 2) x7 s6 c.withdraw-withdrawn.ensures.exponent c.withdraw-withdrawn.ensures.history in
    let again = settles (λ q. loop_at (2 ^ q)) c.of_four-2.result.size.exponent _ x7 x8 c.of_four-2.ensures c.settle-again.ensures.history in
    let s8 = called (λ h. settled_by h 2 2 (loop_at 4) again.lawful) x8 s7 c.settle-again.ensures.exponent again.longer in
    record {
      first_link = answered (λ q. post_answer q 0 1) s0 c.post-first_link.ensures.answer takes_first;
      second_link = answered (λ q. post_answer q 1 2) s1 c.post-second_link.ensures.answer takes_second;
      same_site = answered (λ q. post_answer q 1 1) s2 c.post-same_site.ensures.answer refuses_same;
      recursive = first.lawful;
      settled = shows 15 _ _ s4 r4 (shows_first first.lawful again.lawful) c.ask-settled.ensures.answer c.ask-settled.ensures.best;
      better_link = answered (λ q. post_answer q 0 2) s4 c.post-better_link.ensures.answer (takes_better first.lawful again.lawful);
      improved = shows 9 _ _ s5 r5 (shows_better first.lawful again.lawful) c.ask-improved.ensures.answer c.ask-improved.ensures.best;
      withdrawn = answered (λ q. withdraw_answer costs q 0 2) s6 c.withdraw-withdrawn.ensures.answer (takes_withdrawal first.lawful again.lawful);
      looping = again.lawful;
      settled_again = shows 15 _ _ s8 c.settle-again.ensures.relays (shows_last first.lawful again.lawful) c.ask-settled_again.ensures.answer c.ask-settled_again.ensures.best;
    }
