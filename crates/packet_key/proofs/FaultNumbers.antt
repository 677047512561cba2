-- A fault is told by its number.
use Rattle.std.proofs.Common.{◌≡◌, ◌==◌, ℕ, Option, Some, None, if◌then◌else◌, refl, sym, ap, ◌∙◌}
use Rattle.packet_key.specs.declared.malformed.Malformed.{Malformed}
use Rattle.packet_key.specs.declared.malformed.Malformed.TheVariants.{Ethernet, Tag, Ip, Transport}
use Rattle.packet_key.specs.Frames.{fault_number, FaultsHaveOwnNumbers}

abbrev numbered : ℕ → Option Malformed
numbered n = if n == 1 then Some Ethernet else (if n == 2 then Some Tag else (if n == 3 then Some Ip else (if n == 4 then Some Transport else None)))

numbered_back : (f : Malformed) → numbered (fault_number f) ≡ Some f
numbered_back Ethernet = refl
numbered_back Tag = refl
numbered_back Ip = refl
numbered_back Transport = refl

pub own_numbers : FaultsHaveOwnNumbers
own_numbers a b e =
    let same : Some a ≡ Some b = sym (numbered_back a) ∙ ap numbered e ∙ numbered_back b in
    cc
