-- Bytes that spell a message have no fault.
use Rattle.std.proofs.Common.{◌≡◌, ℕ, ◌+◌, ◌-◌, ◌/◌, ◌%◌, ◌≤◌, Bool, true, false, List, [], ◌++◌, length, drop, None, refl, ap, ◌∙◌, arith}
use Rattle.std.specs.Prelude.{◌==◌, ◌&&◌, not, nat_le, nat_lt}
use Rattle.std.proofs.lemmas.Bool.Decides.{nat_tests}
use Rattle.maple_base.specs.declared.key.Match.{Match}
use Rattle.maple_base.specs.NetworkOrder.{number_at}
use Rattle.of10_codec.specs.declared.message.Body.{Body}
use Rattle.of10_codec.specs.declared.message.Body.TheVariants.{Hello, Error, EchoRequest, EchoReply, FeaturesRequest, FeaturesReply, SetConfig, PacketIn, FlowRemoved, PortStatus, PacketOut, FlowMod, BarrierRequest, BarrierReply, Other}
use Rattle.of10_codec.specs.Types.{type_of, is_named}
use Rattle.of10_codec.specs.Matches.{SpellsMatch, is_whole, wild_bits}
use Rattle.of10_codec.specs.Messages.{SpellsBody, version_of}
use Rattle.of10_codec.specs.Faults.{unless_so, match_faults, are_whole, action_faults, body_faults, first_fault, is_foreign, is_misfit, bad_of}
use Rattle.of10_codec.specs.Laws.{NoFault}
use Rattle.of10_codec.proofs.Steps.{neither}
use Rattle.of10_codec.proofs.Outputs.{outputs_fine}

passes : (t : Bool) (place : ℕ) (rest : List ℕ) → t ≡ true → rest ≡ [] → unless_so t place ++ rest ≡ []
passes t place rest h e = ap (λ s. unless_so s place ++ rest) h ∙ e

both : (s t : Bool) → s ≡ true → t ≡ true → (s && t) ≡ true
both s t h k = ap (λ r. r && t) h ∙ k

match_fine : (m : Match) (b : List ℕ) → SpellsMatch m (drop 8 b) → match_faults b ≡ []
match_fine m b s = ap (λ t. unless_so t 8) (both (is_whole (wild_bits 8 (drop 8 b))) (is_whole (wild_bits 14 (drop 8 b))) s.whole_src s.whole_dst)

join : (xs ys : List ℕ) → xs ≡ [] → ys ≡ [] → xs ++ ys ≡ []
join xs ys e f = ap (λ l. l ++ ys) e ∙ f

other_fine : (kind : ℕ) (b : List ℕ) → is_named kind ≡ false → body_faults kind b ≡ []
other_fine kind b h = grind (arith, nat_tests, neither)

body_fine : (m : Body) (b : List ℕ) → SpellsBody m b → body_faults (type_of m) b ≡ []
body_fine (Hello version) b s = refl
body_fine (Error kind code bytes) b s = passes (nat_le 12 (length b)) 2 [] (grind (arith, nat_tests, s.long)) refl
body_fine (EchoRequest bytes) b s = refl
body_fine (EchoReply bytes) b s = refl
body_fine FeaturesRequest b s = passes (length b == 8) 2 [] (grind (arith, nat_tests)) refl
body_fine (FeaturesReply dpid ports) b s = passes (nat_le 32 (length b) && (length b - 32) % 48 == 0) 2 [] (grind (arith, nat_tests, s.len)) refl
body_fine (SetConfig miss_send_len) b s = passes (length b == 12) 2 [] (grind (arith, nat_tests, s.len)) refl
body_fine (PacketIn buffer total in_port reason bytes) b s = passes (nat_le 18 (length b)) 2 [] (grind (arith, nat_tests, s.long)) refl
body_fine (FlowRemoved of cookie priority reason idle) b s = passes (length b == 88) 2 (match_faults b) (grind (arith, nat_tests, s.len)) (match_fine of b s.is_match)
body_fine (PortStatus reason port) b s =
    let le : number_at 8 1 b ≤ 2 = omega (arith, s.is_reason, s.known) in
    let known : nat_le (number_at 8 1 b) 2 ≡ true = grind (arith, nat_tests) in
    passes (length b == 64) 2 (unless_so (nat_le (number_at 8 1 b) 2) 8) (grind (arith, nat_tests, s.len)) (ap (λ t. unless_so t 8) known)
body_fine (PacketOut buffer in_port actions bytes) b s =
    let n : number_at 14 2 b / 8 ≡ length actions = omega (arith, s.actions_len) in
    let whole : number_at 14 2 b % 8 ≡ 0 = omega (arith, s.actions_len) in
    let within : 16 + number_at 14 2 b ≤ length b = omega (arith, s.actions_len, s.long) in
    passes (nat_le 16 (length b)) 2 (unless_so (are_whole (number_at 14 2 b) (length b)) 14 ++ action_faults (number_at 14 2 b / 8) 16 16 b) (grind (arith, nat_tests, s.long))
    (passes (are_whole (number_at 14 2 b) (length b)) 14 (action_faults (number_at 14 2 b / 8) 16 16 b) (grind (arith, nat_tests))
    (ap (λ k. action_faults k 16 16 b) n ∙ outputs_fine actions 16 16 b s.few s.are_actions))
body_fine (FlowMod of cookie command idle hard priority buffer out_port flags actions) b s =
    let n : (length b - 72) / 8 ≡ length actions = omega (arith, s.len) in
    passes (nat_le 72 (length b) && (length b - 72) % 8 == 0) 2 (match_faults b ++ action_faults ((length b - 72) / 8) 16 72 b) (grind (arith, nat_tests, s.len))
    (join (match_faults b) (action_faults ((length b - 72) / 8) 16 72 b) (match_fine of b s.is_match)
    (ap (λ k. action_faults k 16 72 b) n ∙ outputs_fine actions 16 72 b s.few s.are_actions))
body_fine BarrierRequest b s = passes (length b == 8) 2 [] (grind (arith, nat_tests)) refl
body_fine BarrierReply b s = passes (length b == 8) 2 [] (grind (arith, nat_tests)) refl
body_fine (Other kind) b s = other_fine kind b s

not_foreign : (m : Body) → (not (type_of m == 0) && not (version_of m == 1)) ≡ false
not_foreign (Hello version) = refl
not_foreign (Other kind) = elim (kind == 0) as (λ t. (not t && false) ≡ false) [ true ↦ refl | false ↦ refl ]
not_foreign _ = refl

first_none : (kind : ℕ) (faults : List ℕ) → faults ≡ [] → first_fault kind faults ≡ None
first_none kind faults e = ap (first_fault kind) e

bad_none : (b : List ℕ) → nat_lt (length b) 8 ≡ false → is_foreign b ≡ false → is_misfit b ≡ false → body_faults (number_at 1 1 b) b ≡ [] → bad_of b ≡ None
bad_none b short foreign misfit faults = rw (short, foreign, misfit) (first_none (number_at 1 1 b) (body_faults (number_at 1 1 b) b) faults)

pub no_fault : NoFault
no_fault m b s =
    let long : 8 ≤ length b = s.header.long in
    let whole : number_at 2 2 b ≡ length b = s.header.whole in
    let foreign : is_foreign b ≡ false =
    ap (λ k. not (k == 0) && not (number_at 0 1 b == 1)) s.header.kind ∙ ap (λ v. not (type_of m.body == 0) && not (v == 1)) s.header.version ∙ not_foreign m.body in
    let faults : body_faults (number_at 1 1 b) b ≡ [] = ap (λ k. body_faults k b) s.header.kind ∙ body_fine m.body b s.body in
    bad_none b (grind (arith, nat_tests)) foreign (grind (arith, nat_tests)) faults
