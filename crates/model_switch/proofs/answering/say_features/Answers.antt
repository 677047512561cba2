use Rattle.std.proofs.Common.{◌≡◌, ℕ, zero, suc, List, ◌++◌, length, refl, ap, subst, ◌∙◌, true, arith}
use Rattle.std.proofs.lemmas.List.{length_push}
use Rattle.maple_base.specs.declared.cells.Port.{Port}
use Rattle.maple_base.specs.declared.device.Turned.TheVariants.{Processed}
use Rattle.of10_codec.specs.declared.message.Body.TheVariants.{FeaturesReply}
use Rattle.of10_codec.specs.declared.fault.EncodeError.TheVariants.{TooLong}
use Rattle.of10_codec.specs.Answers.{IsTooLong}
use Rattle.of10_codec.specs.Messages.{Spelled}
use Rattle.of10_codec.specs.Written.{written}
use Rattle.of10_codec.proofs.Lengths.{length_features}
use Rattle.device_port.specs.Switches.{message}
use Rattle.device_port.specs.Devices.{Appends}
use Rattle.model_switch.specs.Answers.{ports_up}
use Rattle.model_switch.specs.Parts.{Says}
use Rattle.model_switch.proofs.answering.say_features.Goals as goal

said : (xid dpid : ℕ) (ps qs : List Port) (old new : List ℕ) → ps ≡ qs → new ≡ old ++ written (message xid (FeaturesReply dpid ps))
    → Spelled (message xid (FeaturesReply dpid ps)) (written (message xid (FeaturesReply dpid ps)))
    → Appends old new (λ bytes. Says (message xid (FeaturesReply dpid qs)) (Processed xid) bytes)
said xid dpid ps qs old new e is spelled =
    subst (λ (rs : List Port). Appends old new (λ bytes. Says (message xid (FeaturesReply dpid rs)) (Processed xid) bytes)) e
    (written (message xid (FeaturesReply dpid ps)), is, (refl, (refl, spelled)))

count_up : (n : ℕ) → length (ports_up n) ≡ n
count_up zero = refl
count_up (suc n) = let e = count_up n in omega (arith, length_push (ports_up n) (record { number = suc n; up = true }))

pub returns-in-Ok-encode : goal.returns-in-Ok-encode
returns-in-Ok-encode c =
    said c.args.xid c.args.dpid c.new.result (ports_up c.args.ports) c.args.out.now.items c.encode.new.out.items (c.new.ensures ∙ c.in-Ok.ensures) c.in-Ok-encode.ensures.ok c.in-Ok-encode.ensures.spelled

pub unreachable-requires : goal.unreachable-requires
unreachable-requires c =
    let m = message c.args.xid (FeaturesReply c.args.dpid c.new.result) in
    let long : IsTooLong (TooLong c.in-Err-TooLong.field-0-0) m = rw c.in-Err-TooLong.field-0-is at c.in-Err-TooLong.ensures.error in
    let count : length c.new.result ≡ c.args.ports = ap length (c.new.ensures ∙ c.in-Ok.ensures) ∙ count_up c.args.ports in
    omega (arith, long.0, long.1, length_features c.args.dpid c.new.result)
