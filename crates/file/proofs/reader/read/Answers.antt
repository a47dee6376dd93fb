-- `read` meets its contract: the field that was found at the place ends within the bytes, so the reader may go behind it.
use Rattle.file.proofs.FieldLaws.{inside-at}
use Rattle.file.proofs.reader.read.Goals as goal

pub behind-requires : goal.behind-requires
behind-requires c =
    let a = c.args in
    rw (c.field-found.ensures, c.new-reader.ensures.0, c.new-reader.ensures.1) (inside-at a.bytes.now a.at a.phase a.ended c.requires).0
