-- `listing::list_node` meets its contract. What the token says is what stands at t, so the arm taken lists the node that is there; a lawful
-- design has no token beyond its modules. Assumes nothing.
use mathlib.Core.Path.{sym, ◌∙◌}
use native.Mathlib.Omega.{arith}
use Rattle.rules.proofs.Nodes.{never_beyond}
use Rattle.listing.proofs.Nodes.{few_nodes, module_of, leaf_ready, leaf_made, cut_after, cut_ready, cut_made}
use Rattle.listing.proofs.list_node.Goals as goal

pub bounds-design-t : goal.bounds-design-t
bounds-design-t c = let p = c.requires in few_nodes p.0 p.1

pub bounds-lefts-t : goal.bounds-lefts-t
bounds-lefts-t c = let p = c.requires in few_nodes p.0 p.1

pub overflow_sub-cut : goal.overflow_sub-cut
overflow_sub-cut c =
    let p = c.requires in
    cut_after p.0 p.1 (sym c.token_of-token.ensures ∙ c.in-Cut.is)

pub list_cut-requires : goal.list_cut-requires
list_cut-requires c =
    let p = c.requires in
    cut_ready p.0 p.1 (sym c.token_of-token.ensures ∙ c.in-Cut.is) c.board_of-board.ensures p.2

pub offset_bounds-design-k : goal.offset_bounds-design-k
offset_bounds-design-k c =
    let p = c.requires in
    omega (arith, module_of p.0 p.1 (sym c.token_of-token.ensures ∙ c.in-Module.is))

pub bounds-design-k : goal.bounds-design-k
bounds-design-k c =
    let p = c.requires in
    module_of p.0 p.1 (sym c.token_of-token.ensures ∙ c.in-Module.is)

pub leaf_node-requires : goal.leaf_node-requires
leaf_node-requires c =
    let p = c.requires in
    leaf_ready p.0 p.1 c.board_of-board.ensures

pub returns-in-Cut : goal.returns-in-Cut
returns-in-Cut c =
    let p = c.requires in
    cut_made p.0 p.1 (sym c.token_of-token.ensures ∙ c.in-Cut.is) c.board_of-board.ensures c.list_cut.ensures

pub returns-in-Module : goal.returns-in-Module
returns-in-Module c =
    let p = c.requires in
    leaf_made p.0 p.1 c.board_of-board.ensures (sym c.token_of-token.ensures ∙ c.in-Module.is) c.leaf_node.ensures

pub returns-in-Beyond : goal.returns-in-Beyond
returns-in-Beyond c =
    let p = c.requires in
    absurd (never_beyond _ p.0.lawful _ p.1 (sym c.token_of-token.ensures ∙ c.in-Beyond.is))
