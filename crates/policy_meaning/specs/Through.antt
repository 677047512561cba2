-- A tree of questions without those that earlier answers settle.
use Rattle.std.specs.Prelude.{ℕ, Bool, true, false, ◌&&◌, ◌==◌, if◌then◌else◌, List, [], ◌∷◌, ◌++◌, Option, Some, None}
use Rattle.maple_base.specs.declared.key.Field.{Field}
use Rattle.maple_base.specs.declared.key.Field.TheVariants.{DlType, NwTos, NwProto, NwSrc, NwDst, TpSrc, TpDst}
use Rattle.maple_base.specs.declared.cells.Cell.{Cell}
use Rattle.maple_base.specs.declared.cells.Value.{Value}
use Rattle.maple_base.specs.declared.items.Item.{Item}
use Rattle.maple_base.specs.declared.items.Item.TheVariants.{Read, Test}
use Rattle.maple_base.specs.Assigned.{ip_type, icmp_protocol, tcp_protocol, udp_protocol}
use Rattle.maple_base.specs.Keys.{in_domain, has_ports}
use Rattle.maple_base.specs.Questions.{known, excluded}
use Rattle.policy_meaning.specs.Cells.{given}
use Rattle.policy_meaning.specs.Asking.{Asking, Done, AsksField, AsksTest, AsksCell}

-- the answers so far
pub record Seen : Type 0 where
  pub items : List Item
  pub cells : List (Cell × Value)

abbrev pub nothing : Seen
nothing = record { items = []; cells = [] }

abbrev pub noted : Seen → Item → Seen
noted s i = record { items = s.items ++ i ∷ []; cells = s.cells }

abbrev pub looked : Seen → Cell → Value → Seen
looked s c v = record { items = s.items; cells = s.cells ++ (c, v) ∷ [] }

-- how a run goes on behind a value, with the answers so far
abbrev pub Onward : Type 0 → Type 0 → Type 0
Onward V A = V → Seen → Asking A

-- whether a field has one of some values: by its known value, or because each of them is excluded; else the field is read
abbrev pub settled_by : {A : Type 0} → Option ℕ → Bool → Field → (ℕ → Bool) → Seen → Onward Bool A → Asking A
settled_by (Some v) ruled f such s next = next (such v) s
settled_by None true f such s next = next false s
settled_by None false f such s next = AsksField f (λ v. next (such v) (noted s (Read f v)))

abbrev pub is_ip : ℕ → Bool
is_ip v = v == ip_type

-- whether the packet has an IP header
abbrev pub ask_net : {A : Type 0} → Seen → Onward Bool A → Asking A
ask_net s next = settled_by (known DlType s.items) (excluded DlType ip_type s.items) DlType is_ip s next

abbrev pub no_ports : List Item → Bool
no_ports seen = excluded NwProto icmp_protocol seen && excluded NwProto tcp_protocol seen && excluded NwProto udp_protocol seen

abbrev pub ask_proto : {A : Type 0} → Onward Bool A → Onward Bool A
ask_proto next true s = settled_by (known NwProto s.items) (no_ports s.items) NwProto has_ports s next
ask_proto next false s = next false s

-- whether the packet has ports: it has an IP header, with a protocol that has them
abbrev pub ask_ports : {A : Type 0} → Seen → Onward Bool A → Asking A
ask_ports s next = ask_net s (ask_proto next)

-- whether the packet has the header of a field
abbrev pub ask_header : {A : Type 0} → Field → Seen → Onward Bool A → Asking A
ask_header NwTos s next = ask_net s next
ask_header NwProto s next = ask_net s next
ask_header NwSrc s next = ask_net s next
ask_header NwDst s next = ask_net s next
ask_header TpSrc s next = ask_ports s next
ask_header TpDst s next = ask_ports s next
ask_header f s next = next true s

abbrev pub settled_field : {A : Type 0} → Option ℕ → Field → Seen → Onward ℕ A → Asking A
settled_field (Some v) f s next = next v s
settled_field None f s next = AsksField f (λ v. next v (noted s (Read f v)))

-- behind the header's question: a field of a header that the packet lacks is 0
abbrev pub read_value : {A : Type 0} → Field → Onward ℕ A → Onward Bool A
read_value f next true s = settled_field (known f s.items) f s next
read_value f next false s = next 0 s

-- the value of a field
abbrev pub ask_field : {A : Type 0} → Field → Seen → Onward ℕ A → Asking A
ask_field f s next = ask_header f s (read_value f next)

abbrev pub settled_test : {A : Type 0} → Option ℕ → Bool → Field → ℕ → Seen → Onward Bool A → Asking A
settled_test (Some w) ruled f v s next = next (w == v) s
settled_test None true f v s next = next false s
settled_test None false f v s next = AsksTest f v (λ b. next b (noted s (Test f v b)))

abbrev pub ask_value : {A : Type 0} → Field → ℕ → Onward Bool A → Onward Bool A
ask_value f v next true s = settled_test (known f s.items) (excluded f v s.items) f v s next
ask_value f v next false s = next (0 == v) s

-- whether a field has a value; one outside the field's domain it never has
abbrev pub ask_test : {A : Type 0} → Field → ℕ → Seen → Onward Bool A → Asking A
ask_test f v s next = if in_domain f v then ask_header f s (ask_value f v next) else next false s

abbrev pub settled_cell : {A : Type 0} → Option Value → Cell → Seen → Onward Value A → Asking A
settled_cell (Some v) c s next = next v s
settled_cell None c s next = AsksCell c (λ v. next v (looked s c v))

-- what a cell has: what was read there before, and else it is read
abbrev pub ask_cell : {A : Type 0} → Cell → Seen → Onward Value A → Asking A
ask_cell c s next = settled_cell (given c s.cells) c s next

-- what is left of a tree behind the answers so far
abbrev pub through : {A : Type 0} → Asking A → Seen → Asking A
through (Done a) s = Done a
through (AsksField f by) s = ask_field f s (λ v t. through (by v) t)
through (AsksTest f v by) s = ask_test f v s (λ b t. through (by b) t)
through (AsksCell c by) s = ask_cell c s (λ v t. through (by v) t)
