-- The names of the header fields (OpenFlow Switch Specification 1.0.0, 5.2.3).
use Rattle.std.specs.Prelude.{ℕ, if◌then◌else◌, List, [], ◌∷◌, Option, Some, None, codes}
use Rattle.std.specs.Str.{bytes_eq}
use Rattle.maple_base.specs.declared.key.Field.{Field}
use Rattle.maple_base.specs.declared.key.Field.TheVariants.{InPort, DlSrc, DlDst, DlVlan, DlType, NwTos, NwProto, NwSrc, NwDst, TpSrc, TpDst}

abbrev pub name_of : Field → List ℕ
name_of InPort = codes "in_port"
name_of DlSrc = codes "dl_src"
name_of DlDst = codes "dl_dst"
name_of DlVlan = codes "dl_vlan"
name_of DlType = codes "dl_type"
name_of NwTos = codes "nw_tos"
name_of NwProto = codes "nw_proto"
name_of NwSrc = codes "nw_src"
name_of NwDst = codes "nw_dst"
name_of TpSrc = codes "tp_src"
name_of TpDst = codes "tp_dst"

abbrev pub all_fields : List Field
all_fields = InPort ∷ DlSrc ∷ DlDst ∷ DlVlan ∷ DlType ∷ NwTos ∷ NwProto ∷ NwSrc ∷ NwDst ∷ TpSrc ∷ TpDst ∷ []

-- the first of some fields that has this name
abbrev pub field_among : List Field → List ℕ → Option Field
field_among [] name = None
field_among (f ∷ fs) name = if bytes_eq (name_of f) name then Some f else field_among fs name

-- the field of this name
abbrev pub field_named : List ℕ → Option Field
field_named = field_among all_fields
