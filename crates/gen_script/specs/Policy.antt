-- The policy under which the script runs.
use Rattle.std.specs.Prelude.{ℕ, List, codes}

unfoldable pub gen_policy : List ℕ
gen_policy =
    codes "table blocked; policy { if pkt.dl_type is 0x0806 { flood; } if blocked[pkt.nw_src] as b { drop; } if host(pkt.dl_dst) as h { route h; } drop; }"
