-- `committing::completing::complete` meets its contract: 11 by the nodes in use, 12 by the marks counted, and else the draft is the profile's node words.
-- Assumes nothing.
use mathlib.Core.Path.{sym}
use Prim.Native.Nat.{◌≤◌}
use native.Mathlib.Omega.{arith}
use borrow.Author.Rules.{rules}
use lib.ListN.{length}
use Rattle.rules.specs.Room.{room_of}
use Rattle.rules.proofs.BoxSaysNo.{fit_refusal_zero}
use Rattle.rules.proofs.Faults.{by_11, by_12}
use Rattle.store.specs.SaidProfile.{said_nodes, said_by}
use Rattle.store.proofs.SaidNodes.{said_nodes_length}
use Rattle.marking.proofs.Counted.{zeros_have_room}
use Rattle.committing.proofs.LinkedDraft.{in_use_kept}
use Rattle.committing.proofs.DraftLaid.{same_in_use, sum_above, sum_within, counts_within, draft_done}
use Rattle.committing.proofs.completing.complete.Goals as goal

pub returns-then-node_room-in_use : goal.returns-then-node_room-in_use
returns-then-node_room-in_use c =
    let args = c.args in
    let draft = args.draft_nodes.now in
    let read = c.node_word-in_use.ensures in
    let over = c.if-node_room-in_use.true in (
      by_11 (room_of args.node_room args.mark_room) (said_by args.draft_bands.now draft) (omega (arith, said_nodes_length draft)),
      λ e. absurd (omega arith),
    )

pub invariant_of-profile : goal.invariant_of-profile
invariant_of-profile c =
    let draft = c.args.draft_nodes.now in
    let kept = in_use_kept draft c.lay_links.ensures in
    omega (arith, said_nodes_length draft)

pub count-sum-requires : goal.count-sum-requires
count-sum-requires c = zeros_have_room _ c.requires.4

pub returns-then-mark_room-sum : goal.returns-then-mark_room-sum
returns-then-mark_room-sum c =
    let args = c.args in
    let bands = args.draft_bands.now in
    let draft = args.draft_nodes.now in
    -- past the first test there is room for the nodes
    let few : length (said_nodes draft) ≤ c.args.node_room = omega (arith, said_nodes_length draft) in (
      by_12 (room_of args.node_room args.mark_room) (said_by bands args.draft_nodes.now) few
          (sum_above bands c.requires.0 c.requires.1 c.lay_links.ensures c.requires.4 c.count-sum.ensures
          c.if-mark_room-sum.true),
      λ e. absurd (omega arith),
    )

pub to_starts-requires : goal.to_starts-requires
to_starts-requires c =
    let few =
    counts_within c.args.draft_bands.now c.requires.0 c.requires.1 c.lay_links.ensures c.requires.4
    c.count-sum.ensures c.if-mark_room-sum.false in
    let room = c.requires.3 in
    omega arith

pub lay_fences-requires : goal.lay_fences-requires
lay_fences-requires c =
    let draft = c.args.draft_nodes.now in
    let same = same_in_use draft _ c.lay_links.ensures c.put_node_word.ensures c.put_node_word-2.ensures in
    let few : length (said_nodes draft) ≤ c.args.node_room = omega (arith, said_nodes_length draft) in
    let said = said_nodes_length draft in
    let room = c.requires.2 in
    search rules

pub returns : goal.returns
returns c =
    let args = c.args in
    let bands = args.draft_bands.now in
    let draft = args.draft_nodes.now in
    let pre = c.requires in
    let fit = c.if-mark_room-sum.false in
    let few : length (said_nodes draft) ≤ c.args.node_room = omega (arith, said_nodes_length draft) in (
      sym ((fit_refusal_zero (room_of args.node_room args.mark_room) (said_by bands draft)).1
          (few, sum_within bands pre.0 pre.1 c.lay_links.ensures pre.4 c.count-sum.ensures fit)),
      λ e.
          draft_done bands pre.0 pre.1 c.lay_links.ensures pre.4 c.count-sum.ensures fit
          (omega (arith, said_nodes_length draft)) c.put_node_word.ensures c.put_node_word-2.ensures c.to_starts.ensures
          c.lay_fences.ensures,
    )
