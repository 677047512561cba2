-- The reply to an echo request is no longer than the request.
use Rattle.std.proofs.Common.{◌≡◌, ℕ, ◌+◌, ◌≤◌, ◌<◌, List, [], ◌∷◌, length, drop, subst, ap, arith, length-drop}
use Rattle.std.specs.List.{All}
use Rattle.maple_base.specs.NetworkOrder.{number_at}
use Rattle.of10_codec.specs.declared.message.Message.{Message}
use Rattle.of10_codec.specs.declared.message.Body.{Body}
use Rattle.of10_codec.specs.declared.message.Body.TheVariants.{EchoRequest}
use Rattle.of10_codec.specs.Messages.{SpellsBody}
use Rattle.switch_session.specs.Calls.{CanBeHeard}

two_bytes : (b : List ℕ) → All (λ x. x < 256) b → 4 ≤ length b → number_at 2 2 b < 65536
two_bytes [] a le = absurd (omega arith)
two_bytes (x ∷ []) a le = absurd (omega arith)
two_bytes (x ∷ y ∷ []) a le = absurd (omega arith)
two_bytes (x ∷ y ∷ z ∷ []) a le = absurd (omega arith)
two_bytes (x ∷ y ∷ z ∷ w ∷ rest) a le =
    let high : z < 256 = a 2 0 (omega arith) in
    let low : w < 256 = a 3 0 (omega arith) in
    omega arith

pub echo_short : (m : Message) (said : List ℕ) → CanBeHeard m → m.body ≡ EchoRequest said → 8 + length said ≤ 65535
echo_short m said h e =
    let header = h.spelled.header in
    let rest : drop 8 h.bytes ≡ said = subst (λ (body : Body). SpellsBody body h.bytes) e h.spelled.body in
    let long : 4 ≤ length h.bytes = omega (arith, header.long) in
    omega (arith, two_bytes h.bytes h.are_bytes long, header.long, header.whole, length-drop 8 h.bytes, ap length rest)
