-- Each message makes one of these of a session.
use Rattle.std.proofs.Common.{◌≡◌, ℕ, true, List, refl, sym, ap, ◌∙◌, subst₂, inl, inr}
use Rattle.std.specs.Prelude.{◌&&◌, nat_le, Ok, Err, is_err}
use Rattle.std.proofs.lemmas.Bool.{and_parts}
use Rattle.maple_base.specs.declared.cells.Port.{Port}
use Rattle.of10_codec.specs.declared.message.Body.{Body}
use Rattle.of10_codec.specs.declared.message.Body.TheVariants as body
use Rattle.switch_session.specs.declared.told.Heard.{Heard}
use Rattle.switch_session.specs.Calls.{HearsHello, HearsEcho, HearsFeatures, HearsPacket, HearsPort, HearsReply, HearsError, HearsBody, Answer, Passes, Lacks, of_batch}
use Rattle.machine_steps.specs.Machine.{Session, is_live}
use Rattle.machine_steps.specs.Messages.{MayPass, Makes}
use Rattle.machine_steps.specs.Messages.Makes.{PassesOver, RefusesVersion, Greets, Echoes, IsNamed, BringsPacket, BringsPort, ComesEarly, LacksNumbers, Acknowledges, RefusesClearing, BreaksOff, IsRefused}

-- after want of memory the session is as it was
abbrev pub MakesBy : ℕ → Body → Session → Answer → Session → Type 0
MakesBy xid b s (Ok x) t = Makes xid b s x t
MakesBy xid b s (Err e) t = t ≡ s

module _ (xid : ℕ) (b : Body) (s : Session) (a : Answer) (t : Session) where
  made : (y : Heard) (u : Session) → a ≡ Ok y → t ≡ u → Makes xid b s y u → MakesBy xid b s a t
  made y u e f m = subst₂ (MakesBy xid b s) (sym e) (sym f) m

  passes : MayPass xid b s → Passes s a t → MakesBy xid b s a t
  passes may (e, f) = made _ _ e f (PassesOver may)

  lacks : Lacks s a t → MakesBy xid b s a t
  lacks (e, f) = go a refl
    where
      go : (c : Answer) → a ≡ c → MakesBy xid b s c t
      go (Ok x) is = (let g = sym (ap is_err is) ∙ e in absurd (cc))
      go (Err x) is = f

  hello : (version : ℕ) → b ≡ body.Hello version → MayPass xid b s → HearsHello xid version s a t → MakesBy xid b s a t
  hello version is may (inl (first, zero, inl (e, f))) = made _ _ e f (RefusesVersion is first)
  hello version is may (inl (first, zero, inr l)) = lacks l
  hello version is may (inr (inl (first, above, e, f))) = made _ _ e f (Greets is first)
  hello version is may (inr (inr (inl (first, above, l)))) = lacks l
  hello version is may (inr (inr (inr (other, p)))) = passes may p

  echo : (bytes : List ℕ) → b ≡ body.EchoRequest bytes → MayPass xid b s → HearsEcho xid bytes s a t → MakesBy xid b s a t
  echo bytes is may (inl (other, e, f)) = made _ _ e f (Echoes is other)
  echo bytes is may (inr (inl (other, l))) = lacks l
  echo bytes is may (inr (inr (over, p))) = passes may p

  features : (dpid : ℕ) (ports : List Port) → b ≡ body.FeaturesReply dpid ports → MayPass xid b s → HearsFeatures dpid ports s a t → MakesBy xid b s a t
  features dpid ports is may (inl (second, e, f)) = made _ _ e f (IsNamed is second)
  features dpid ports is may (inr (inl (second, l))) = lacks l
  features dpid ports is may (inr (inr (other, p))) = passes may p

  packet : (buffer total in_port reason : ℕ) (bytes : List ℕ) → b ≡ body.PacketIn buffer total in_port reason bytes → MayPass xid b s → HearsPacket buffer in_port bytes s a t
      → MakesBy xid b s a t
  packet buffer total in_port reason bytes is may (inl (live, e, f)) = made _ _ e f (BringsPacket is live)
  packet buffer total in_port reason bytes is may (inr (inl (live, l))) = lacks l
  packet buffer total in_port reason bytes is may (inr (inr (other, p))) = passes may p

  port : (reason : ℕ) (q : Port) → b ≡ body.PortStatus reason q → MayPass xid b s → HearsPort reason q s a t → MakesBy xid b s a t
  port reason q is may (inl (live, physical, e, f)) = made _ _ e f (BringsPort is live)
  port reason q is may (inr (inl (live, none_such, p))) = passes may p
  port reason q is may (inr (inr (other, p))) = passes may p

module _ (xid : ℕ) (s : Session) (a : Answer) (t : Session) where
  reply : HearsReply xid s a t → MakesBy xid body.BarrierReply s a t
  reply (inl (other, p)) = passes xid body.BarrierReply s a t other p
  reply (inr (inl (awaited, early, e, f))) = made xid body.BarrierReply s a t _ _ e f (ComesEarly refl awaited early)
  reply (inr (inr (inl (to, over, e, f)))) = made xid body.BarrierReply s a t _ _ e f (LacksNumbers refl to over)
  reply (inr (inr (inr (to, within, e, f)))) = made xid body.BarrierReply s a t _ _ e f (Acknowledges refl to within)

  error : (kind code : ℕ) (bytes : List ℕ) → HearsError xid kind code s a t → MakesBy xid (body.Error kind code bytes) s a t
  error kind code bytes (inl (over, p)) = passes xid (body.Error kind code bytes) s a t over p
  error kind code bytes (inr (inl (batch, clearing, e, f))) = made xid (body.Error kind code bytes) s a t _ _ e f (RefusesClearing refl batch clearing)
  error kind code bytes (inr (inr (inl (change, loud, e, f)))) = made xid (body.Error kind code bytes) s a t _ _ e f (BreaksOff refl change loud)
  error kind code bytes (inr (inr (inr (inl (change, quiet, e, f))))) = made xid (body.Error kind code bytes) s a t _ _ e f (IsRefused refl (inr (change, quiet)))
  error kind code bytes (inr (inr (inr (inr (other, beside, e, f))))) = made xid (body.Error kind code bytes) s a t _ _ e f (IsRefused refl (inl beside))

  pub made_by : (b : Body) → HearsBody xid b s a t → MakesBy xid b s a t
  made_by (body.Hello version) h = hello xid (body.Hello version) s a t version refl tt h
  made_by (body.Error kind code bytes) h = error kind code bytes h
  made_by (body.EchoRequest bytes) h = echo xid (body.EchoRequest bytes) s a t bytes refl tt h
  made_by (body.FeaturesReply dpid ports) h = features xid (body.FeaturesReply dpid ports) s a t dpid ports refl tt h
  made_by (body.PacketIn buffer total in_port reason bytes) h = packet xid (body.PacketIn buffer total in_port reason bytes) s a t buffer total in_port reason bytes refl tt h
  made_by (body.PortStatus reason q) h = port xid (body.PortStatus reason q) s a t reason q refl tt h
  made_by body.BarrierReply h = reply h
  made_by other h = passes xid other s a t tt h

pub made_of : (xid : ℕ) (s : Session) (x : Heard) (t : Session) (b : Body) → HearsBody xid b s (Ok x) t → Makes xid b s x t
made_of xid s x t b h = made_by xid s (Ok x) t b h

-- a batch is of a live session
pub batch_live : (xid : ℕ) (s : Session) → of_batch xid s ≡ true → is_live s ≡ true
batch_live xid s e = (and_parts (is_live s) (nat_le 1 xid) (and_parts (is_live s && nat_le 1 xid) (nat_le xid s.taken) e).0).0
