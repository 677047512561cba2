use Rattle.std.proofs.Common.{◌≡◌, ◌++◌, List, ℕ, Option, length, Contains, sym, ap, ◌∙◌, subst, arith}
use Rattle.maple_base.specs.declared.cells.Place.{Place}
use Rattle.topo_paths.specs.Rows.{HaveHops}
use Rattle.topo_paths.proofs.hop_table.HopTable.copy.Goals as goal

same_rows : (c : goal.In_ok-from_slice) → c.in_ok-from_slice.field-0.items ≡ c.args.self.now.rows.items
same_rows c = c.in_ok-from_slice.ensures.items ∙ c.deref-2.ensures.value

same_switches : (c : goal.In_ok-from_slice) → c.extend_from_slice.new.self.items ≡ c.args.self.now.switches.items
same_switches c =
    c.in_ok-extend_from_slice.ensures.items ∙ ap (λ (x : List ℕ). x ++ c.deref.result.now) c.in_ok-switches.ensures.items ∙ c.deref.ensures.value

pub returns-clause-room : goal.returns-clause-room
returns-clause-room c =
    record {
      least = omega (arith, c.in_ok-with_capacity.ensures.capacity);
      switches = omega (arith, c.in_ok-switches.ensures.capacity, c.in_ok-extend_from_slice.ensures.capacity);
      ends = omega (arith, c.in_ok-with_capacity-2.ensures.capacity);
      rows = ap length (same_rows c) ∙ c.requires.rows;
    }

pub returns-clause-table : goal.returns-clause-table
returns-clause-table c = λ list t.
    record {
      square = record { few = omega (arith, t.square.few, ap length (same_switches c)); rows = ap length (same_rows c) ∙ t.square.rows };
      hops = subst (λ (x : List ℕ). HaveHops list x c.in_ok-from_slice.field-0.items) (sym (same_switches c)) (subst (λ (x : List (List (Option Place))). HaveHops list c.args.self.now.switches.items x) (sym (same_rows c)) t.hops);
      others = λ from to out. t.others from to (λ named. out (subst (λ (x : List ℕ). Contains x from × Contains x to) (sym (same_switches c)) named));
    }
