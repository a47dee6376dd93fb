-- `front_field` meets its contract: a field whose tag, length and order are right, and that is whole, is the one that its name is asked of.
use Rattle.std.proofs.Common.{◌∙◌, arith}
use Rattle.file.specs.Field.{tag_of, length_of, marks_in, right_field}
use Rattle.file.proofs.FieldLaws.{right-length}
use Rattle.file.proofs.fields.front_field.Goals as goal

pub field_named-requires : goal.field_named-requires
unfolding length_of right_field
field_named-requires c =
    let bytes = c.args.bytes.now in
    let r = c.in-Some.ensures in
    let sized = c.number_at-length.ensures in
    record {
      tagged = r.tagged;
      sized = sized;
      due = sized ∙ rw (← r.tagged) at (right-length c.args.phase (tag_of bytes) (length_of bytes) (marks_in bytes) r.right);
      whole = omega arith;
    }
