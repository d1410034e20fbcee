use native.Mathlib.Omega.{arith}
use mathlib.Core.Path.{refl, sym, ◌∙◌, subst}
use Prim.Native.Nat.{◌≤◌}
use Rattle.netlist.specs.FileFormat.{netlist_of}
use Rattle.netlist.specs.Limits.{last_state}
use Rattle.lasso_search.specs.SearchStage.{LassoDone}
use borrow.Author.Rules.{rules}
use Rattle.ternary_step.proofs.ReadyLaws.{start-part}
use Rattle.lasso_search.proofs.SearchLaws.{unlike-more, sought-start, advance-room, sought-never, sought-next, sought-found, same-asks, repeat-is}
use Rattle.lasso_search.proofs.find_lasso.Goals as goal

pub start-registers-requires : goal.start-registers-requires
start-registers-requires c = search start-part

pub states-init : goal.states-init
states-init c = search sought-start

pub advance-requires : goal.advance-requires
advance-requires c = let small : c.states.m ≤ last_state = omega arith in search (advance-room, small, rules)

pub history-init : goal.history-init
history-init c = (refl, λ x h. absurd (omega arith))

pub same_state-requires : goal.same_state-requires
same_state-requires c = search (same-asks, rules)

pub history-preserved : goal.history-preserved
history-preserved c = (c.history.invariant.0, unlike-more (netlist_of c.args.file.now) c.states.m c.history.k c.history.invariant.1 (sym (repeat-is c.requires.ready (omega arith) (omega arith) c.advance.ensures.1 c.start-registers.ensures.0 refl c.state_offset-old.ensures c.state_offset-new.ensures (λ x. omega (arith, c.slice_known-in-states-1.given x)) c.same_state.result c.same_state.ensures) ∙ c.if-same_state.false))

pub states-preserved : goal.states-preserved
states-preserved c = (sought-next c.requires.cleared_work c.requires.ready.file.count c.start-registers.ensures.1.0 c.states.invariant.0 (omega arith) c.advance.ensures.0 c.advance.ensures.1 (λ n h. c.history.invariant.1 n (omega arith)), c.history.invariant.0 ∙ c.states.invariant.1)

pub returns-after-states : goal.returns-after-states
returns-after-states c = subst (LassoDone (netlist_of c.args.file.now) c.args.work.now c.states.work) (sym c.states.invariant.1) (sought-never c.requires.cleared_work c.requires.ready.file.count c.start-registers.ensures.1.0 c.states.invariant.0 (omega arith))

pub returns-then-same_state : goal.returns-then-same_state
returns-then-same_state c = sought-found c.requires.cleared_work c.requires.ready.file.count c.start-registers.ensures.1.0 c.states.invariant.0 (omega arith) c.advance.ensures.0 c.advance.ensures.1 c.history.k (omega arith) c.history.invariant.1 (sym (repeat-is c.requires.ready (omega arith) (omega arith) c.advance.ensures.1 c.start-registers.ensures.0 refl c.state_offset-old.ensures c.state_offset-new.ensures (λ x. omega (arith, c.slice_known-in-states-1.given x)) c.same_state.result c.same_state.ensures) ∙ c.if-same_state.true)
