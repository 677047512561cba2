-- What the types of a tree's parts keep: numbers are below 2^64, names are names, and an `out` has 1 to 16 expressions.
use Rattle.std.specs.Prelude.{◌≡◌, ℕ, Bool, true, ◌&&◌, ◌^◌, nat_lt, nat_le, List, length}
use Rattle.std.specs.List.{list_all}
use Rattle.maple_base.specs.Names.{is_name}
use Rattle.policy_lang.specs.Tree.{Atom, Number, Var, SwitchOf, PortOf, PacketSwitch, Packet, Term, Single, Call, Is, Not, Pair, Source, Host, Hop, Table, Ask, Binds, Holds, Act, Acts, Drop, Flood, Out, Route, Let, Assign, If, IfElse, While, Done, Then}

abbrev pub sound_atom : Atom → Bool
sound_atom (Number n) = nat_lt n (2 ^ 64)
sound_atom (Var x) = is_name x
sound_atom (SwitchOf x) = is_name x
sound_atom (PortOf x) = is_name x
sound_atom PacketSwitch = true
sound_atom (Packet f) = true

abbrev pub sound_term : Term → Bool
sound_term (Single a) = sound_atom a
sound_term (Call c l r) = sound_term l && sound_term r
sound_term (Is f e) = sound_term e
sound_term (Not e) = sound_term e
sound_term (Pair o l r) = sound_term l && sound_term r

abbrev pub sound_source : Source → Bool
sound_source Host = true
sound_source Hop = true
sound_source (Table t) = is_name t

abbrev pub sound_ask : Ask → Bool
sound_ask (Binds s e x) = sound_source s && sound_term e && is_name x
sound_ask (Holds e) = sound_term e

abbrev mutual
  pub sound_act : Act → Bool
  sound_act Drop = true
  sound_act Flood = true
  sound_act (Out es) = nat_le 1 (length es) && nat_le (length es) 16 && list_all sound_term es
  sound_act (Route e) = sound_term e
  sound_act (Let x e) = is_name x && sound_term e
  sound_act (Assign x e) = is_name x && sound_term e
  sound_act (If q b) = sound_ask q && sound_acts b
  sound_act (IfElse q b c) = sound_ask q && sound_acts b && sound_acts c
  sound_act (While e b) = sound_term e && sound_acts b

  pub sound_acts : Acts → Bool
  sound_acts Done = true
  sound_acts (Then s rest) = sound_act s && sound_acts rest

-- the tables and the statements of a policy
pub record IsSound (tables : List (List ℕ)) (body : Acts) : Type 0 where
  pub named : list_all is_name tables ≡ true
  pub parts : sound_acts body ≡ true
