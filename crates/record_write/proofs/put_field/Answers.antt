-- `put_field`: the low bytes of the number are its field's.
use Rattle.std.proofs.Common.{refl}
use Rattle.record_write.proofs.Field.{low_bytes}
use Rattle.record_write.proofs.put_field.Goals as goal

pub returns : goal.returns
returns g c = rw (c.put_bytes.ensures, c.to_le_bytes.ensures, low_bytes g.row.N c.args.v c.requires.short) refl
