-- What is laid out is this design's, so its places are on the chip and can be tested; a cut without a pair, or the test of the places,
-- settles whether one goes down. Assumes nothing.
use Rattle.placing.proofs.Going.{first_on, whole_rooms, laid_out, places_on, no_pair, all_tested}
use Rattle.placing.proofs.go_down.Goals as goal

pub returns-in_err-places : goal.returns-in_err-places
returns-in_err-places c =
    let e = c.lists_of-lists.ensures.of in
    rw c.from_residual.ensures (no_pair c.requires (laid_out c.requires e.0 e.1 e.2 c.left_children.ensures c.in_err-places.ensures))

pub all_suit-requires-clause-on : goal.all_suit-requires-clause-on
all_suit-requires-clause-on c =
    let p = c.requires in let e = c.lists_of-lists.ensures.of in
    let z = laid_out p e.0 e.1 e.2 c.left_children.ensures c.in_ok-places.ensures in
    first_on _ _ (places_on p z _ (whole_rooms p z))

pub returns : goal.returns
returns c =
    let p = c.requires in let e = c.lists_of-lists.ensures.of in
    let z = laid_out p e.0 e.1 e.2 c.left_children.ensures c.in_ok-places.ensures in
    rw c.then_some.ensures (all_tested p z _ (whole_rooms p z) c.all_suit.result c.all_suit.ensures)
