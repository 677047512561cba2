-- What a reader gives is all that the bytes can mean.
use Rattle.std.proofs.Common.{◌≡◌, ℕ, List, length, Result, Ok, Err, Some, IfOk, IfErr, sym, ◌∙◌, arith}
use Rattle.std.proofs.lemmas.Bool.Decides.{nat_tests}
use Rattle.maple_base.specs.NetworkOrder.{number_at}
use Rattle.of10_codec.specs.declared.message.Message.{Message}
use Rattle.of10_codec.specs.declared.lent.MessageRef.{MessageRef}
use Rattle.of10_codec.specs.declared.lent.BodyRef.{BodyRef}
use Rattle.of10_codec.specs.declared.fault.Bad.{Bad}
use Rattle.of10_codec.specs.Messages.{Spelled, version_of}
use Rattle.of10_codec.specs.Faults.{bad_of}
use Rattle.of10_codec.specs.Lent.{message_of, body_of, GivesLent}
use Rattle.of10_codec.specs.Reading.{ReadsHeader, ReadsBody}
use Rattle.of10_codec.proofs.Shown.{one_message}
use Rattle.of10_codec.proofs.Fine.{no_fault}

-- a header and a body that were read make a message
pub message_spelled : (kind xid : ℕ) (body : BodyRef) (b : List ℕ) → ReadsHeader kind xid b → ReadsBody kind body b → Spelled (message_of (record { xid = xid; body = body })) b
message_spelled kind xid body b h r =
    let version : number_at 0 1 b ≡ version_of (body_of body) = grind (arith, nat_tests, h.known, h.is_kind, r.is_version) in
    let whole : number_at 2 2 b ≡ length b = grind (arith, nat_tests, h.whole) in
    record {
      header = record { long = h.long; version = version; kind = h.is_kind ∙ sym r.is_kind; whole = whole; xid = h.is_xid };
      body = r.spelled;
    }

pub given_alone : (r : Result MessageRef Bad) (b : List ℕ) → IfOk r (λ lent. Spelled (message_of lent) b) → IfErr r (λ bad. bad_of b ≡ Some bad) → (m : Message) → Spelled m b → GivesLent r m
given_alone (Ok lent) b found fault m s = one_message (message_of lent) m b found s
given_alone (Err bad) b found fault m s = cc (no_fault m b s)
