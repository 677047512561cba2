use Rattle.std.proofs.Common.{◌≡◌, drop}
use Rattle.maple_base.specs.FieldNames.{field_among}
use Rattle.maple_base.proofs.key.field_among.Given as goal

-- none of the fields so far has the name
abbrev pub invariant-loop-field : goal.invariant-loop-field
invariant-loop-field l = field_among (drop l.field-index l.fields) l.name ≡ field_among l.fields l.name
