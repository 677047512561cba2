-- Places and names are each in one order, in which no two are tied.
use Rattle.std.specs.Prelude.{◌≡◌, refl}
use Rattle.std.specs.declared.cmp.Ordering.{Ordering}
use Rattle.std.specs.declared.cmp.Ordering.TheVariants.{Less, Equal, Greater}
use Rattle.std.specs.Ordering.{nat_cmp, ordering_then}
use Rattle.std.specs.Cmp.{IsTotalOrder, nat_cmp_total, on_total, then_total}
use Rattle.std.specs.Cmp.Lexicographic.{nat_list_cmp_total}
use Rattle.std.specs.FinMap as map
use Rattle.std.specs.FinMap.{nat_cmp-IsAntisymmetric, slice_cmp-IsAntisymmetric}
use Rattle.maple_base.specs.declared.cells.Place.{Place}
use Rattle.env_cells.specs.Environment.{place_cmp, name_cmp}

pub place_order_total : IsTotalOrder place_cmp
place_order_total = then_total (on_total (λ (p : Place). p.switch) nat_cmp_total) (on_total (λ (p : Place). p.port) nat_cmp_total)

pub place_order_apart : map.IsAntisymmetric place_cmp
place_order_apart p q e = parts (nat_cmp p.switch q.switch) refl e
  where
    parts : (r : Ordering) → nat_cmp p.switch q.switch ≡ r → ordering_then r (nat_cmp p.port q.port) ≡ Equal → p ≡ q
    parts Less apart e = cc
    parts Equal tied e = λ i. record { switch = nat_cmp-IsAntisymmetric p.switch q.switch tied i; port = nat_cmp-IsAntisymmetric p.port q.port e i }
    parts Greater apart e = cc

pub name_order_total : IsTotalOrder name_cmp
name_order_total = nat_list_cmp_total

pub name_order_apart : map.IsAntisymmetric name_cmp
name_order_apart = slice_cmp-IsAntisymmetric nat_cmp-IsAntisymmetric
