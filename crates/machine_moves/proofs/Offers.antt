-- Messages that can be offered to a switch.
use Rattle.std.proofs.Common.{◌≡◌, ℕ, ◌+◌, ◌^◌, ◌<◌, ◌≤◌, true, List, [], ◌∷◌, ◌++◌, length, refl, subst, arith}
use Rattle.std.specs.Prelude.{◌&&◌, ◌==◌, nat_lt, if◌then◌else◌, None}
use Rattle.std.specs.List.{AllByRecursion, list_all}
use Rattle.std.proofs.lemmas.Bool.{and_parts, and_from, cond_both, eqb-true, lt-ltb, ltb-true}
use Rattle.maple_base.specs.Keys.{anything}
use Rattle.maple_base.specs.declared.key.Match.{Match}
use Rattle.maple_base.specs.declared.decision.TableMod.{TableMod}
use Rattle.maple_base.specs.declared.decision.TableMod.TheVariants.{Add, DeleteStrict, DeleteAll}
use Rattle.of10_codec.specs.declared.message.Message.{Message}
use Rattle.of10_codec.specs.declared.message.Body.{Body}
use Rattle.of10_codec.specs.declared.message.Body.TheVariants.{Error, EchoReply, PacketOut, BarrierRequest}
use Rattle.of10_codec.specs.Messages.{Spelled}
use Rattle.of10_codec.specs.Written.{written, written_body, sent_body, fits_fields, match_fits_fields}
use Rattle.of10_codec.specs.Laws.{Spells, has_bits, actions_have_bits, body_has_bits}
use Rattle.of10_codec.proofs.Lengths.{length_packet_out, length_flow_mod}
use Rattle.device_port.specs.Devices.{IsOfController}
use Rattle.device_port.specs.Switches.{change_of}
use Rattle.maple_base.specs.OpenFlow.{no_buffer, no_port, add_command, delete_command, delete_strict_command}
use Rattle.switch_session.specs.Parts.{flow_mod, change_body, change_message, changes_from, barrier_request, hello, features_request, set_config, version_refusal, echo_reply, packet_out}
use Rattle.machine_steps.specs.Machine.{most_sent_back}
use Rattle.machine_moves.specs.Sends.{CanBeOffered}

-- a number below 2^32
in_word : (n : ℕ) → n < 2 ^ 32 → has_bits 32 n ≡ true
in_word n h = lt-ltb n (2 ^ 32) h

-- ---- what a change of the flow table keeps to

abbrev pub match_of : TableMod → Match
match_of (Add r) = r.of
match_of (DeleteStrict of priority) = of
match_of DeleteAll = anything

abbrev pub actions_of : TableMod → List ℕ
actions_of (Add r) = r.actions
actions_of change = []

-- its numbers have their widths, and it has few actions
pub record ChangeFits (change : TableMod) : Type 0 where
  pub bits : body_has_bits (change_body change) ≡ true
  pub fields : match_fits_fields (match_of change) ≡ true
  pub few : length (actions_of change) ≤ 16

-- ---- what holds of all elements of two lists

pub all_append : {X : Type 0} (P : X → Type 0) (xs ys : List X) → AllByRecursion P xs → AllByRecursion P ys → AllByRecursion P (xs ++ ys)
all_append P [] ys h k = k
all_append P (x ∷ xs) ys h k = (h.0, all_append P xs ys h.1 k)

-- ---- which messages can be offered

module _ (law : Spells) where
  offered : (xid : ℕ) (b : Body) → xid < 2 ^ 32 → IsOfController b → body_has_bits b ≡ true → fits_fields b ≡ true → length (written_body b) ≤ 65527 → sent_body b ≡ b → CanBeOffered (record { xid = xid; body = b })
  offered xid b small kind bits fits short same =
      let m : Message = record { xid = xid; body = b } in
      record {
        kind = kind;
        as_written = refl;
        spelled = subst (λ (c : Body). Spelled (record { xid = xid; body = c }) (written m)) same (law m (and_from (has_bits 32 xid) (body_has_bits b) (in_word xid small) bits) fits (omega (arith, short)));
      }

  -- ---- those that are always the same

  pub hello_offered : CanBeOffered hello
  hello_offered = offered 0 hello.body (omega arith) tt refl refl (omega arith) refl

  pub request_offered : CanBeOffered features_request
  request_offered = offered 0 features_request.body (omega arith) tt refl refl (omega arith) refl

  pub config_offered : CanBeOffered set_config
  config_offered = offered 0 set_config.body (omega arith) tt refl refl (omega arith) refl

  -- ---- those with a number or bytes that were heard

  pub refusal_offered : (xid : ℕ) → xid < 2 ^ 32 → CanBeOffered (version_refusal xid)
  refusal_offered xid small = offered xid (Error 0 0 []) small tt refl refl (omega arith) refl

  pub echo_offered : (xid : ℕ) (bytes : List ℕ) → xid < 2 ^ 32 → length bytes ≤ 65527 → CanBeOffered (echo_reply xid bytes)
  echo_offered xid bytes small short = offered xid (EchoReply bytes) small tt refl refl short refl

  pub barrier_offered : (xid : ℕ) → xid < 2 ^ 32 → CanBeOffered (barrier_request xid)
  barrier_offered xid small = offered xid BarrierRequest small tt refl refl (omega arith) refl

  -- ---- a packet

  pub packet_offered : (buffer in_port : ℕ) (actions frame : List ℕ) → buffer < 2 ^ 32 → in_port < 2 ^ 16 → actions_have_bits actions ≡ true → (buffer ≡ no_buffer → length frame ≤ most_sent_back)
      → CanBeOffered (packet_out buffer in_port actions frame)
  packet_offered buffer in_port actions frame of_word of_half fits short =
      let bytes : List ℕ = if buffer == no_buffer then frame else [] in
      let few : length actions < 17 = ltb-true (length actions) 17 (and_parts (nat_lt (length actions) 17) (list_all (has_bits 16) actions) fits).0 in
      let within : length bytes ≤ most_sent_back = cond_both (buffer == no_buffer) frame [] (λ (b : List ℕ). length b ≤ most_sent_back) (λ e. short (eqb-true buffer no_buffer e)) (λ e. omega arith) in
      let long = length_packet_out buffer in_port actions bytes in
      offered 0 (PacketOut buffer in_port actions bytes) (omega arith) tt
      (and_from (has_bits 32 buffer && has_bits 16 in_port) (actions_have_bits actions) (and_from (has_bits 32 buffer) (has_bits 16 in_port) (lt-ltb buffer (2 ^ 32) of_word) (lt-ltb in_port (2 ^ 16) of_half)) fits)
      refl (omega (arith, long, few, within)) refl

  -- ---- a change of the flow table

  changed : (xid : ℕ) (of : Match) (cookie command idle priority : ℕ) (actions : List ℕ) → xid < 2 ^ 32 → (change_of (flow_mod of cookie command idle priority actions) ≡ None → ⊥)
      → body_has_bits (flow_mod of cookie command idle priority actions) ≡ true → match_fits_fields of ≡ true → length actions ≤ 16 → CanBeOffered (record { xid = xid; body = flow_mod of cookie command idle priority actions })
  changed xid of cookie command idle priority actions small kind bits fits few =
      let long = length_flow_mod of cookie command idle 0 priority no_buffer no_port 0 actions in
      offered xid (flow_mod of cookie command idle priority actions) small kind bits fits (omega (arith, long, few)) refl

  pub change_offered : (xid : ℕ) (change : TableMod) → xid < 2 ^ 32 → ChangeFits change → CanBeOffered (change_message xid change)
  change_offered xid (Add r) small f = changed xid r.of r.cookie add_command r.idle r.priority r.actions small (λ e. cc) f.bits f.fields f.few
  change_offered xid (DeleteStrict of priority) small f = changed xid of 0 delete_strict_command 0 priority [] small (λ e. cc) f.bits f.fields f.few
  change_offered xid DeleteAll small f = changed xid anything 0 delete_command 0 0 [] small (λ e. cc) f.bits f.fields f.few

  -- changes with their numbers
  pub changes_offered : (xid : ℕ) (changes : List TableMod) → xid + length changes ≤ 2 ^ 32 → AllByRecursion ChangeFits changes → AllByRecursion CanBeOffered (changes_from xid changes)
  changes_offered xid [] small f = tt
  changes_offered xid (change ∷ changes) small f = (change_offered xid change (omega (arith, small)) f.0, changes_offered (xid + 1) changes (omega (arith, small)) f.1)
