-- A line begins the text of a policy just where a script's line asks for one.
use Rattle.std.proofs.Common.{◌≡◌, ℕ, Bool, true, false, cond, List, [], length, Option, Some, None, Result, Ok, Err, refl, sym, ap, subst}
use Rattle.std.specs.Prelude.{codes, nat_lt, nat_le, ◌&&◌}
use Rattle.std.proofs.lemmas.Slice.Eq.{bytes_eq-Decides}
use Rattle.script_text.specs.declared.command.Command.{Command}
use Rattle.script_text.specs.declared.command.Command.TheVariants as commands
use Rattle.script_text.specs.Grammar.{EmptyLine, CommentLine, PlugLine, UnplugLine, PacketLine, FrameLine, TurnLine, SettleLine, HostLine, NoHostLine, LinkLine, NoLinkLine, SetLine, UnsetLine, NewPolicyLine, RulesLine, QuitLine, IsLine, most_bytes}
use Rattle.script_text.specs.Orders.{Halt, Order, order_by, order_of, order_read}
use Rattle.script_text.specs.Orders.Order.{NewPolicy}
use Rattle.script_text.specs.Reading.{line_command}
use Rattle.script_text.proofs.Said.{reads_lines}
use Rattle.board_lines.specs.ControlItems.{is_new_policy}
use Rattle.board_lines.specs.Laws.{BeginsAsOrdered}

ordered : (places : ℕ) (line : List ℕ) → is_new_policy line ≡ true → order_of places line ≡ Ok (NewPolicy [])
ordered places line h = subst (λ l. order_of places l ≡ Ok (NewPolicy [])) (sym ((bytes_eq-Decides line (codes "newpolicy")).0 h)) refl

no_place : (t : Bool) (o : Order) (h : Halt) → (o ≡ NewPolicy [] → ⊥) → cond t (Ok o) (Err h) ≡ Ok (NewPolicy []) → ⊥
no_place true o h other e = other (cc)
no_place false o h other e = cc

command_ordered : (places : ℕ) (c : Command) → order_by places c ≡ Ok (NewPolicy []) → c ≡ commands.NewPolicy
command_ordered places commands.NewPolicy e = refl
command_ordered places commands.Nothing e = absurd (cc e)
command_ordered places (commands.Plug c) e = absurd (no_place (nat_le 1 c && nat_le c places) _ _ (λ f. cc f) e)
command_ordered places (commands.Unplug c) e = absurd (no_place (nat_le 1 c && nat_le c places) _ _ (λ f. cc f) e)
command_ordered places (commands.Packet c key) e = absurd (no_place (nat_le 1 c && nat_le c places) _ _ (λ f. cc f) e)
command_ordered places (commands.Frame c port bytes) e = absurd (no_place (nat_le 1 c && nat_le c places) _ _ (λ f. cc f) e)
command_ordered places (commands.Turn c n) e = absurd (no_place (nat_le 1 c && nat_le c places) _ _ (λ f. cc f) e)
command_ordered places commands.Settle e = absurd (cc e)
command_ordered places (commands.Host mac place) e = absurd (cc e)
command_ordered places (commands.NoHost mac) e = absurd (cc e)
command_ordered places (commands.Link from to) e = absurd (cc e)
command_ordered places (commands.NoLink from) e = absurd (cc e)
command_ordered places (commands.Set table key value) e = absurd (cc e)
command_ordered places (commands.Unset table key) e = absurd (cc e)
command_ordered places (commands.Rules switch) e = absurd (cc e)
command_ordered places commands.Quit e = absurd (cc e)

read_ordered : (places : ℕ) (o : Option Command) → order_read places o ≡ Ok (NewPolicy []) → o ≡ Some commands.NewPolicy
read_ordered places None e = absurd (cc e)
read_ordered places (Some c) e = ap Some (command_ordered places c e)

line_is : (line : List ℕ) (c : Command) → IsLine line c → c ≡ commands.NewPolicy → line ≡ codes "newpolicy"
line_is line c (EmptyLine a) e = absurd (cc e)
line_is line c (CommentLine t a) e = absurd (cc e)
line_is line c (PlugLine w a) e = absurd (cc e)
line_is line c (UnplugLine w a) e = absurd (cc e)
line_is line c (PacketLine w a b d f) e = absurd (cc e)
line_is line c (FrameLine w a b d f) e = absurd (cc e)
line_is line c (TurnLine w a b) e = absurd (cc e)
line_is line c (SettleLine w) e = absurd (cc e)
line_is line c (HostLine w a b) e = absurd (cc e)
line_is line c (NoHostLine w a) e = absurd (cc e)
line_is line c (LinkLine w a b) e = absurd (cc e)
line_is line c (NoLinkLine w a) e = absurd (cc e)
line_is line c (SetLine w a b d) e = absurd (cc e)
line_is line c (UnsetLine w a b) e = absurd (cc e)
line_is line c (NewPolicyLine w) e = w.joined
line_is line c (RulesLine w a) e = absurd (cc e)
line_is line c (QuitLine w) e = absurd (cc e)

by_length : (t : Bool) (h : Halt) (r : Result Order Halt) → cond t (Err h) r ≡ Ok (NewPolicy []) → r ≡ Ok (NewPolicy [])
by_length true h r e = absurd (cc e)
by_length false h r e = e

begins : (places : ℕ) (line : List ℕ) → order_of places line ≡ Ok (NewPolicy []) → is_new_policy line ≡ true
begins places line e =
    let command : line_command line ≡ Some commands.NewPolicy =
    read_ordered places (line_command line) (by_length (nat_lt most_bytes (length line)) _ (order_read places (line_command line)) e) in
    (bytes_eq-Decides line (codes "newpolicy")).1 (line_is line commands.NewPolicy ((reads_lines line commands.NewPolicy).0 command) refl)

pub begins_as_ordered : BeginsAsOrdered
begins_as_ordered places line = (ordered places line, begins places line)
