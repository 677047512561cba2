-- What was done with a connection, and what deeds leave of that.
use Rattle.std.proofs.Common.{◌≡◌, ℕ, Bool, true, false, not, ◌&&◌, ◌||◌, ◌==◌, List, [], ◌∷◌, ◌++◌, length, append-nil, refl, sym, ap, ◌∙◌, subst}
use Rattle.std.proofs.Math.Bool.{and-false}
use Rattle.std.proofs.lemmas.Bool.{and_left}
use Rattle.std.specs.List.{list_all, list_any}
use Rattle.maple_io.specs.Boards.{sent, was_closed, was_opened}
use Rattle.of10_stream.specs.Steps.{Stream}
use Rattle.machine_steps.specs.declared.entry.Entry.{Entry}
use Rattle.machine_steps.specs.declared.entry.Entry.TheVariants as entries
use Rattle.machine_steps.specs.declared.entry.Input.{Input}
use Rattle.machine_steps.specs.declared.reply.Reply.{Reply}
use Rattle.machine_steps.specs.declared.reply.Reply.TheVariants as replies
use Rattle.machine_steps.specs.Histories.{Turn}
use Rattle.machine_steps.specs.Machine.{State}
use Rattle.sim_steps.specs.Agreeing.{AreCut}
use Rattle.serve_steps.specs.Deeds.{Past, acts_of, bytes_of, ends, ends_by_link, has_failed, input_in, inputs_of, is_open, is_over, opens, out_by, out_in, taken_of, tells_end, tells_link_end, was_accepted, was_cut}
use Rattle.serve_steps.specs.Deeds.Deed.{Enters}
use Rattle.serve_steps.proofs.Heard.{open_if}
use Rattle.serve_channels.specs.declared.connection.Connection.{Connection}
use Rattle.serve_channels.specs.Keeping.{Agrees, IsForgotten, IsHeardTo, IsUnused, is_message}
use Rattle.serve_channels.specs.Servers.{number_of}
use Rattle.serve_channels.specs.Stretches.{IsAside}

-- ---- as much was done with a connection, but that bytes may have come, or that it may have been opened

pub record IsAlike (c : ℕ) (a b : Past) : Type 0 where
  pub accepted : was_accepted c b ≡ was_accepted c a
  pub over : is_over c b ≡ is_over c a
  pub cut : was_cut c b ≡ was_cut c a
  pub failed : has_failed c b ≡ has_failed c a
  pub inputs : inputs_of c b ≡ inputs_of c a
  pub taken : taken_of c b ≡ taken_of c a
  pub sent_is : sent c (acts_of b) ≡ sent c (acts_of a)
  pub closed : was_closed c (acts_of b) ≡ was_closed c (acts_of a)
  pub opened : was_opened c (acts_of a) ≡ true → was_opened c (acts_of b) ≡ true

pub alike_same : (c : ℕ) (a : Past) → IsAlike c a a
alike_same c a = record {
  accepted = refl;
  over = refl;
  cut = refl;
  failed = refl;
  inputs = refl;
  taken = refl;
  sent_is = refl;
  closed = refl;
  opened = λ was. was;
}

pub alike_then : (c : ℕ) (a b d : Past) → IsAlike c a b → IsAlike c b d → IsAlike c a d
alike_then c a b d h k = record {
  accepted = k.accepted ∙ h.accepted;
  over = k.over ∙ h.over;
  cut = k.cut ∙ h.cut;
  failed = k.failed ∙ h.failed;
  inputs = k.inputs ∙ h.inputs;
  taken = k.taken ∙ h.taken;
  sent_is = k.sent_is ∙ h.sent_is;
  closed = k.closed ∙ h.closed;
  opened = λ was. k.opened (h.opened was);
}

pub alike_open : (c : ℕ) (a b : Past) → IsAlike c a b → is_open c b ≡ is_open c a
alike_open c a b h = ap (λ x. x && not (is_over c b)) h.accepted ∙ ap (λ x. was_accepted c a && not x) h.over

-- ---- so what is kept of it agrees still

pub heard_same : (c : ℕ) (old new : Past) (stream : Stream) → inputs_of c new ≡ inputs_of c old → bytes_of c new ≡ bytes_of c old → IsHeardTo c old stream
    → IsHeardTo c new stream
heard_same c old new stream inputs bytes k = record {
  cut = subst (λ (is : List Input). AreCut 0 is (bytes_of c new) stream.rest) (sym inputs)
      (subst (λ (bs : List ℕ). AreCut 0 (inputs_of c old) bs stream.rest) (sym bytes) k.cut);
  place = k.place ∙ ap (λ (bs : List ℕ). length bs) (sym bytes);
  unbroken = k.unbroken;
  messages = ap (λ (is : List Input). list_all is_message is) inputs ∙ k.messages;
}

pub agrees_alike : (k : Connection) (a b : Past) → IsAlike (number_of k) a b → bytes_of (number_of k) b ≡ bytes_of (number_of k) a → Agrees a k → Agrees b k
agrees_alike k a b h came agrees = record {
  queue = agrees.queue;
  begun = agrees.begun;
  live = alike_open (number_of k) a b h ∙ agrees.live;
  over = h.over ∙ agrees.over;
  cut = agrees.cut ∙ sym h.cut;
  step = h.taken ∙ agrees.step ∙ ap (λ xs. xs ++ k.queue.rest) (sym h.sent_is);
  failed = agrees.failed ∙ sym h.failed;
  heard = λ live. heard_same (number_of k) a b k.inbound.from.stream h.inputs came (agrees.heard live);
  opened = h.opened agrees.opened;
  closed = h.closed ∙ agrees.closed;
}

pub forgotten_alike : (c : ℕ) (a b : Past) → IsAlike c a b → IsForgotten c a → IsForgotten c b
forgotten_alike c a b h k = record { shut = alike_open c a b h ∙ k.shut; closed = h.closed ∙ k.closed ∙ sym h.over }

pub unused_alike : (c : ℕ) (a b : Past) → IsAlike c a b → IsUnused c a → IsUnused c b
unused_alike c a b h k = record {
  unaccepted = h.accepted ∙ k.unaccepted;
  not_over = h.over ∙ k.not_over;
  uncut = h.cut ∙ k.uncut;
  untaken = h.taken ∙ k.untaken;
  unsent = h.sent_is ∙ k.unsent;
  unfailed = h.failed ∙ k.unfailed;
  unheard = h.inputs ∙ k.unheard;
  unclosed = h.closed ∙ k.unclosed;
}

-- ---- a turn of the machine does nothing with it

pub record Spares (c : ℕ) (t : Turn) : Type 0 where
  pub opens_not : opens c (Enters t) ≡ false
  pub ends_not : ends c (Enters t) ≡ false
  pub cuts_not : ends_by_link c (Enters t) ≡ false
  pub hears_not : input_in c (Enters t) ≡ []
  pub gives_not : out_in c (Enters t) ≡ []

pub or_first : (a b : Bool) → a ≡ false → (a || b) ≡ b
or_first true b e = absurd (cc)
or_first false b e = refl

nothing_behind : {X : Type 0} (xs ys : List X) → ys ≡ [] → xs ++ ys ≡ xs
nothing_behind xs ys e = ap (λ zs. xs ++ zs) e ∙ append-nil xs

pub alike_turn : (c : ℕ) (t : Turn) (a : Past) → Spares c t → IsAlike c a (Enters t ∷ a)
alike_turn c t a h = record {
  accepted = or_first (opens c (Enters t)) (was_accepted c a) h.opens_not;
  over = or_first (ends c (Enters t)) (is_over c a) h.ends_not;
  cut = or_first (ends_by_link c (Enters t)) (was_cut c a) h.cuts_not;
  failed = refl;
  inputs = nothing_behind (inputs_of c a) (input_in c (Enters t)) h.hears_not;
  taken = nothing_behind (taken_of c a) (out_in c (Enters t)) h.gives_not;
  sent_is = ap (sent c) (append-nil (acts_of a));
  closed = ap (was_closed c) (append-nil (acts_of a));
  opened = λ was. ap (was_opened c) (append-nil (acts_of a)) ∙ was;
}

pub aside_turn : (c : ℕ) (t : Turn) (done : Past) → Spares c t → IsAside c done → IsAside c (Enters t ∷ done)
aside_turn c t done h k = record {
  taken = nothing_behind (taken_of c done) (out_in c (Enters t)) h.gives_not ∙ k.taken;
  unsent = ap (sent c) (append-nil (acts_of done)) ∙ k.unsent;
  unanswered = k.unanswered;
  unfailed = k.unfailed;
  unended = or_first (ends c (Enters t)) (list_any (ends c) done) h.ends_not ∙ k.unended;
}

-- ---- which turns do so

-- the entry is about this connection
abbrev pub is_about : ℕ → Entry → Bool
is_about c (entries.Open d) = d == c
is_about c (entries.Heard d input) = d == c
is_about c (entries.Gone d fault) = d == c
is_about c (entries.TakeOut d) = d == c
is_about c entry = false

gives_another : (c d : ℕ) (r : Reply) → (d == c) ≡ false → out_by c (entries.TakeOut d) r ≡ []
gives_another c d (replies.Out bytes) e = rw e refl
gives_another c d r e = refl

spared_by : (c : ℕ) (before behind : State) (e : Entry) (r : Reply) → is_about c e ≡ false
    → Spares c (record { before = before; entry = e; reply = r; behind = behind })
spared_by c before behind (entries.Open d) r other = record { opens_not = open_if c d r other; ends_not = and_left (d == c) (tells_end r) other; cuts_not = and_left (d == c) (tells_link_end r) other; hears_not = refl; gives_not = refl }
spared_by c before behind (entries.Heard d input) r other = record { opens_not = refl; ends_not = and_left (d == c) (tells_end r) other; cuts_not = and_left (d == c) (tells_link_end r) other; hears_not = rw other refl; gives_not = refl }
spared_by c before behind (entries.Gone d fault) r other = record { opens_not = refl; ends_not = and_left (d == c) (tells_end r) other; cuts_not = and_left (d == c) (tells_link_end r) other; hears_not = refl; gives_not = refl }
spared_by c before behind (entries.TakeOut d) r other = record { opens_not = refl; ends_not = refl; cuts_not = refl; hears_not = refl; gives_not = gives_another c d r other }
spared_by c before behind e r other = record { opens_not = refl; ends_not = refl; cuts_not = refl; hears_not = refl; gives_not = refl }

pub spares_another : (c : ℕ) (t : Turn) → is_about c t.entry ≡ false → Spares c t
spares_another c t other = spared_by c t.before t.behind t.entry t.reply other

-- no session ends, where it is told that one was gone
pub spares_gone : (c : ℕ) (before behind : State) (d : ℕ) (fault : Bool) → Spares c (record { before = before; entry = entries.Gone d fault; reply = replies.Done; behind = behind })
spares_gone c before behind d fault = record { opens_not = refl; ends_not = and-false (d == c); cuts_not = and-false (d == c); hears_not = refl; gives_not = refl }
