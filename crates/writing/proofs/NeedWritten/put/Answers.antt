-- A lawful need's three numbers are at most 65,535, and its bytes are theirs. Assumes nothing.
use Rattle.writing.proofs.Lengths.{need_listed, need_fits}
use Rattle.writing.proofs.NeedWritten.put.Goals as goal

pub put_row-requires-clause-fit : goal.put_row-requires-clause-fit
put_row-requires-clause-fit c = need_fits c.args.self.now c.requires.fit

pub put_row-requires-clause-room : goal.put_row-requires-clause-room
put_row-requires-clause-room c = rw need_listed c.requires.room

pub returns : goal.returns
returns c = rw need_listed at c.put_row.ensures
