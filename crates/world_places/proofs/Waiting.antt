-- What waits in a switch: the messages ahead of the first barrier may be done.
use Rattle.std.proofs.Common.{◌≡◌, ℕ, suc, ◌<◌, Bool, true, false, List, [], ◌∷◌, ◌++◌, length, get_or, take, drop, Some, None, refl, sym, ap, ◌∙◌, subst, inr, arith}
use Rattle.std.specs.Prelude.{Option, ◌||◌, if◌then◌else◌, is_some, nat_lt}
use Rattle.std.specs.Option.{option_map}
use Rattle.std.specs.List.{AllByRecursion, remove}
use Rattle.std.proofs.lemmas.Bool.{lt-ltb}
use Rattle.std.proofs.lemmas.List.{get_or_at, get_or_default, length-take-le}
use Rattle.maple_base.specs.declared.decision.Rule.{Rule}
use Rattle.of10_codec.specs.declared.message.Message.{Message}
use Rattle.of10_codec.specs.declared.message.Body.{Body}
use Rattle.of10_codec.specs.declared.message.Body.TheVariants as body
use Rattle.of10_codec.specs.Types.{protocol_version}
use Rattle.device_port.specs.Switches.{AnswersBody, Leads, Switch, change_of, is_barrier, is_flow_mod, message}
use Rattle.model_switch.specs.Answers.{ports_up, reply_of}
use Rattle.model_switch.specs.States.{free_count}
use Rattle.model_switch.proofs.Lists.{NoBarrier, free_apart, free_within, parted}
use Rattle.world_places.specs.declared.said.Said.{Said}
use Rattle.world_places.specs.Said.{body_said}
use Rattle.world_places.specs.Acts.{LacksAt, PendsFree, ProcessesAt, RefusesAt}
use Rattle.world_places.specs.Answers.{adds_new, answers_to, messages_of, port_count, refusal_to}

-- ---- the message at a place

-- no barrier is ahead of the place, nor at it
abbrev pub pends : (ms : List Message) (at : ℕ) (m : Message) → at < free_count ms → m ≡ get_or ms at m → PendsFree at ms m
pends ms at m free is =
    let most = free_within ms in
    let within : at < length ms = omega arith in
    let split = parted ms at m within is in
    let place : length (take at ms) ≡ at = length-take-le at ms (omega arith) in
    let apart = free_apart (take at ms) m (drop (suc at) ms) (subst (λ (xs : List Message). length (take at ms) < free_count xs) split (omega arith)) in
    record { ahead = take at ms; behind = drop (suc at) ms; stands = record { place = split; free = apart.0 }; place = place; no_barrier = apart.1 }

counted : (ahead : List Message) (m : Message) (behind : List Message) → AllByRecursion NoBarrier ahead → NoBarrier m → length ahead < free_count (ahead ++ m ∷ behind)
counted [] m behind all clear = subst (λ (b : Bool). 0 < (if b then 0 else suc (free_count behind))) (sym clear) (omega arith)
counted (a ∷ ahead) m behind all clear =
    let more = counted ahead m behind all.1 clear in
    subst (λ (b : Bool). suc (length ahead) < (if b then 0 else suc (free_count (ahead ++ m ∷ behind)))) (sym all.0) (omega arith)

-- and where none is, the place is counted
pub is_counted : (ms : List Message) (at : ℕ) (m : Message) → PendsFree at ms m → at < free_count ms
is_counted ms at m p =
    let there = subst (λ (xs : List Message). length p.ahead < free_count xs) (sym p.stands.place) (counted p.ahead m p.behind p.stands.free p.no_barrier) in
    let place = p.place in omega arith

pub not_counted : (ms : List Message) (at : ℕ) → nat_lt at (free_count ms) ≡ false → (m : Message) → PendsFree at ms m → ⊥
not_counted ms at e m p = let yes = lt-ltb at (free_count ms) (is_counted ms at m p) in cc

-- ---- it is dealt with

answers_body : (dpid ports xid : ℕ) (b : Body) → is_barrier b ≡ false → AnswersBody dpid xid b (messages_of (option_map (message xid) (reply_of dpid ports b)))
answers_body dpid ports xid (body.Hello version) clear = inr (xid, protocol_version, refl)
answers_body dpid ports xid body.FeaturesRequest clear = (xid, ports_up ports, refl)
answers_body dpid ports xid (body.EchoRequest bytes) clear = refl
answers_body dpid ports xid body.BarrierRequest clear = cc
answers_body dpid ports xid b clear = refl

module _ (dpid : ℕ) where
  abbrev switch : List Rule → List Message → List Message → Switch
  switch table pending sent = record { dpid = dpid; table = table; pending = pending; sent = sent }

  module _ (table : List Rule) (pending sent : List Message) (at : ℕ) (m : Message) (free : at < free_count pending) (is : m ≡ get_or pending at m) (left : List Message) (goes : left ≡ remove pending at) where
    abbrev p : PendsFree at pending m
    p = pends pending at m free is

    pub processed : (new : List Rule) (said : List Message) → Leads m.body table new → said ≡ sent ++ answers_to m (switch table pending sent) → ProcessesAt at (switch table pending sent) (switch new left said)
    processed new said leads e = record {
      message = m;
      pends = p;
      does = record {
        ahead = p.ahead;
        behind = p.behind;
        stands = p.stands;
        no_barrier = p.no_barrier;
        answers = answers_to m (switch table pending sent);
        answered = answers_body dpid port_count m.xid m.body p.no_barrier;
        table = new;
        leads = leads;
        now_is = λ i. switch new (goes i) (e i);
      };
      loses = record { ahead = p.ahead; gone = m; rest = p.behind; place = p.place; pending = p.stands.place; left = goes; sends = e };
    }

    pub refused : (said : List Message) → is_flow_mod m.body ≡ true → said ≡ sent ++ refusal_to m (switch table pending sent) → RefusesAt at (switch table pending sent) (switch table left said)
    refused said change e = record {
      message = m;
      pends = p;
      change = change;
      does = record {
        ahead = p.ahead;
        behind = p.behind;
        stands = p.stands;
        change = change;
        kind = 3;
        code = 0;
        bytes = [];
        now_is = λ i. switch table (goes i) (e i);
      };
      loses = record { ahead = p.ahead; gone = m; rest = p.behind; place = p.place; pending = p.stands.place; left = goes; sends = e };
    }

-- ---- memory for it

or_true : (b : Bool) → (b || true) ≡ true
or_true true = refl
or_true false = refl

module _ (s : Switch) (at : ℕ) (m : Message) (free : at < free_count s.pending) (is : m ≡ get_or s.pending at m) where
  -- room for an answer is wanted where there is one
  pub lacks_answer : is_some (reply_of s.dpid port_count m.body) ≡ true → LacksAt at s
  lacks_answer e = record { message = m; pends = pends s.pending at m free is; takes = ap (λ b. b || adds_new (change_of m.body) s.table) e }

  -- and room for a rule where one is added
  pub lacks_rule : adds_new (change_of m.body) s.table ≡ true → LacksAt at s
  lacks_rule e = record { message = m; pends = pends s.pending at m free is; takes = ap (λ b. is_some (reply_of s.dpid port_count m.body) || b) e ∙ or_true (is_some (reply_of s.dpid port_count m.body)) }

-- what is said is an answer
pub is_said : (said : Option Said) → is_some said ≡ true → is_some (option_map body_said said) ≡ true
is_said (Some x) e = refl
is_said None e = cc

-- two messages that stand at one place are one
pub same_at : (ms : List Message) (at : ℕ) (m n : Message) → at < length ms → m ≡ get_or ms at m → n ≡ get_or ms at n → m ≡ n
same_at ms at m n within one other = one ∙ get_or_default ms at m n within ∙ sym other

-- a message that stands free at a place is the one that is read there, and asks for no change where that doesn't
pub not_change : (ms : List Message) (at : ℕ) (n : Message) → n ≡ get_or ms at n → is_flow_mod n.body ≡ false → (m : Message) → PendsFree at ms m → is_flow_mod m.body ≡ true → ⊥
not_change ms at n is other m p flow =
    let there : get_or ms at n ≡ m = ap (λ (xs : List Message). get_or xs at n) p.stands.place ∙ get_or_at p.ahead m p.behind n at p.place in
    let same = ap (λ (x : Message). is_flow_mod x.body) (is ∙ there) in
    cc
