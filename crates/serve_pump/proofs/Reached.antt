-- What was delivered: by who was there, ahead of it and behind it.
use Rattle.std.proofs.Common.{◌≡◌, ◌⊎◌, ℕ, suc, zero, true, false, not, List, [], ◌∷◌, ◌++◌, Option, Some, None, append_assoc, append-nil, refl, sym, ap, ◌∙◌, subst, inl, inr, ⊎_elim}
use Rattle.std.specs.Option.{option_or}
use Rattle.std.proofs.lemmas.Bool.{cases_eq}
use Rattle.maple_io.specs.declared.act.Act.{Act}
use Rattle.maple_io.specs.declared.board.Sent.{Sent}
use Rattle.maple_io.specs.Boards.{sent}
use Rattle.machine_desk.specs.Desks.{DeskView}
use Rattle.machine_desk.specs.Hearing.{is_live}
use Rattle.machine_steps.specs.declared.entry.Entry.{Entry}
use Rattle.world_steps.specs.Worlds.{messages_for}
use Rattle.machine_desk.proofs.Opened.{live_is}
use Rattle.serve_steps.specs.Deeds.{Past, acts_of, is_open, is_over, last_answer, was_cut}
use Rattle.serve_steps.specs.Parts.{Given, due, own_of}
use Rattle.serve_steps.specs.Runs.{taken_in, taken_report}
use Rattle.serve_channels.specs.declared.connection.Connection.{Connection}
use Rattle.serve_channels.specs.declared.server.Server.{Server}
use Rattle.serve_channels.specs.Delivering.{AllLive, Closes, IsSentOut, IsServed, IsStill, ServesAll}
use Rattle.serve_channels.specs.Keeping.{Agrees, Goes, IsKept, IsServing, Went}
use Rattle.serve_channels.specs.Servers.{IsAt, IsKnown, IsUnknown, SameNumbers, number_of}
use Rattle.serve_channels.specs.Stretches.{IsAside, Stretch}
use Rattle.serve_channels.proofs.Stretching.{answer_then, aside_then, gathered_then, stretch_then}
use Rattle.serve_pump.specs.Turning.{Acted, Acts, AllSent, Delivers, IsPassedBy, IsReached}
use Rattle.serve_pump.proofs.Stretched.{Passes, acts_aside, closed_before, cut_stays, failed_stays, open_stays, over_stays, sent_stays, taken_ahead, taken_behind, taken_now, taken_stays}

-- ---- who is there

first_or_later : (c : ℕ) (k : Connection) (ks : List Connection) → ((number_of k ≡ c) ⊎ (number_of k ≡ c → ⊥)) → IsKnown c ks ⊎ IsUnknown c ks → IsKnown c (k ∷ ks) ⊎ IsUnknown c (k ∷ ks)
first_or_later c k ks (inl is) later = inl (0, record { connection = k; there = refl; number = is })
first_or_later c k ks (inr other) (inl known) =
    inl (suc known.0, record { connection = known.1.connection; there = known.1.there; number = known.1.number })
first_or_later c k ks (inr other) (inr unknown) = inr (λ known. absent known.0 known.1)
  where
    same_first : (is : IsAt 0 c (k ∷ ks)) → k ≡ is.connection
    same_first is = (let e : Some k ≡ Some is.connection = is.there in cc)

    absent : (at : ℕ) → IsAt at c (k ∷ ks) → ⊥
    absent zero is = other (ap number_of (same_first is) ∙ is.number)
    absent (suc at) is = unknown (at, record { connection = is.connection; there = is.there; number = is.number })

pub is_there : (c : ℕ) (ks : List Connection) → IsKnown c ks ⊎ IsUnknown c ks
is_there c [] = inr (λ known. absurd (none_there known.0 known.1))
  where
    none_there : (at : ℕ) → IsAt at c [] → ⊥
    none_there at is = (let e : None ≡ Some is.connection = is.there in absurd (cc))
is_there c (k ∷ ks) = first_or_later c k ks (cases_eq (number_of k) c) (is_there c ks)

-- ---- where more was done ahead

module _ (c : ℕ) (first more past : Past) where
  pub passed_ahead : IsAside c first → IsPassedBy c (first ++ past) more → IsPassedBy c past (more ++ first)
  passed_ahead aside h =
      record { aside = aside_then c first more aside h.aside; shut = ap (is_open c) (append_assoc more first past) ∙ h.shut }

  pub reached_ahead : due first ≡ None → IsReached c (first ++ past) more → IsReached c past (more ++ first)
  reached_ahead none h = record {
    unclosed = closed_before c first past h.unclosed;
    over = subst (λ (p : Past). is_over c p ≡ not (is_open c p)) (sym (append_assoc more first past)) h.over;
    taken = λ uncut. taken_ahead c first more none (h.taken (sym (ap (was_cut c) (append_assoc more first past)) ∙ uncut));
    all_sent = subst (λ (p : Past). AllSent c p (last_answer c (more ++ first))) (sym (append_assoc more first past)) (sent_ahead h.all_sent);
  }
    where
      sent_ahead : AllSent c (more ++ (first ++ past)) (last_answer c more) → AllSent c (more ++ (first ++ past)) (last_answer c (more ++ first))
      sent_ahead (inl e) = inl e
      sent_ahead (inr (inl e)) = inr (inl e)
      sent_ahead (inr (inr (inl e))) = inr (inr (inl e))
      sent_ahead (inr (inr (inr e))) = inr (inr (inr (answer_then c first more ∙ ap (λ (o : Option Sent). option_or o (last_answer c first)) e)))

-- ---- where nothing was done with any behind it

module _ (c : ℕ) (done more past : Past) (h : Passes more (done ++ past)) where
  abbrev after : Past
  after = more ++ (done ++ past)

  same : (more ++ done) ++ past ≡ after
  same = append_assoc more done past

  pub passed_behind : IsPassedBy c past done → IsPassedBy c past (more ++ done)
  passed_behind k =
      record { aside = aside_then c done more k.aside (h.aside c); shut = ap (is_open c) same ∙ open_stays c more (done ++ past) (h.aside c) h.stretch.own_is ∙ k.shut }

  same_answer : last_answer c (more ++ done) ≡ last_answer c done
  same_answer = answer_then c done more ∙ ap (λ (o : Option Sent). option_or o (last_answer c done)) (h.aside c).unanswered

  sent_behind : AllSent c (done ++ past) (last_answer c done) → AllSent c after (last_answer c (more ++ done))
  sent_behind (inl e) = inl (sent_stays c more (done ++ past) (h.aside c) ∙ e ∙ sym (taken_stays c more (done ++ past) (h.aside c)))
  sent_behind (inr (inl e)) = inr (inl (failed_stays c more (done ++ past) (h.aside c) ∙ e))
  sent_behind (inr (inr (inl e))) = inr (inr (inl (cut_stays c more (done ++ past) (h.aside c) ∙ e)))
  sent_behind (inr (inr (inr e))) = inr (inr (inr (same_answer ∙ e)))

  pub reached_behind : due done ≡ None → IsReached c past done → IsReached c past (more ++ done)
  reached_behind none k = record {
    unclosed = k.unclosed;
    over =
        subst (λ (p : Past). is_over c p ≡ not (is_open c p)) (sym same)
        (over_stays c more (done ++ past) (h.aside c) ∙ k.over ∙ ap not (sym (open_stays c more (done ++ past) (h.aside c) h.stretch.own_is)));
    taken = λ uncut.
        taken_behind c done more none h.stretch.own_is (k.taken (sym (ap (was_cut c) same ∙ cut_stays c more (done ++ past) (h.aside c)) ∙ uncut));
    all_sent = subst (λ (p : Past). AllSent c p (last_answer c (more ++ done))) (sym same) (sent_behind k.all_sent);
  }

-- ---- deliveries

sent_out : (k : Connection) (past done : Past) → Agrees (done ++ past) k → IsSentOut k done → AllSent (number_of k) (done ++ past) (last_answer (number_of k) done)
sent_out k past done agrees (inl e) =
    inl (sym (agrees.step ∙ ap (λ (xs : List ℕ). sent (number_of k) (acts_of (done ++ past)) ++ xs) e ∙ append-nil (sent (number_of k) (acts_of (done ++ past)))))
sent_out k past done agrees (inr (inl e)) = inr (inl (sym agrees.failed ∙ e))
sent_out k past done agrees (inr (inr (inl e))) = inr (inr (inl (sym agrees.cut ∙ e)))
sent_out k past done agrees (inr (inr (inr e))) = inr (inr (inr e))

reached : (k : Connection) (past done : Past) → own_of done ≡ [] → Agrees (done ++ past) k → IsServed k done → IsReached (number_of k) past done
reached k past done none agrees served = record {
  unclosed = closed_before (number_of k) done past agrees.closed;
  over = agrees.over ∙ ap not (sym agrees.live);
  taken = λ uncut. taken_now (number_of k) done none (served.taken (agrees.cut ∙ uncut));
  all_sent = sent_out k past done agrees served.sent;
}

-- each that was there behind a delivery was there ahead of it
module _ (g : Given) (before : List Act) (past : Past) (log : List Act) (a b : Server) (numbers : SameNumbers a b) (w : Went g before (ServesAll b past) past log b) where
  was_unknown : (c : ℕ) → IsUnknown c b.connections.items → IsUnknown c a.connections.items
  was_unknown c unknown known = unknown (known.0, (numbers known.0 c).0 known.1)

  each_delivered : (c : ℕ) → (IsUnknown c a.connections.items × IsPassedBy c past w.done) ⊎ IsReached c past w.done
  each_delivered c =
      ⊎_elim
      (λ (known : IsKnown c b.connections.items).
      (let k = known.1.connection in
      inr (subst (λ n. IsReached n past w.done) known.1.number
      (reached k past w.done (w.stretch.own_is ∙ w.so.0) (w.kept.agree known.0 k known.1.there) (w.so.1 known.0 k known.1.there)))))
      (λ (unknown : IsUnknown c b.connections.items). inl (was_unknown c unknown, record { aside = w.aside c unknown; shut = (w.kept.forgotten c unknown).shut }))
      (is_there c b.connections.items)

-- ---- put together

pub acted_then : (g : Given) (before : List Act) (So : List Entry → Past → Type 0) (past first more : Past) (ours theirs : List Entry) (log : List Act) (s : Server)
    → Stretch ours first past → Stretch theirs more (first ++ past) → taken_report first ≡ [] → taken_report more ≡ [] → IsKept g before (more ++ (first ++ past)) log s
    → So (ours ++ theirs) (more ++ first) → Acted g before So past log s
acted_then g before So past first more ours theirs log s h k none also kept so = record {
  done = more ++ first;
  own = ours ++ theirs;
  stretch = stretch_then ours theirs first more past h k;
  so = so;
  kept = subst (λ (p : Past). IsKept g before p log s) (sym (append_assoc more first past)) kept;
  unread = gathered_then taken_in first more ∙ ap (λ (text : List ℕ). text ++ taken_report more) none ∙ also;
}

none_then : (xs ys : List Entry) → xs ≡ [] → ys ≡ [] → xs ++ ys ≡ []
none_then xs ys e f = ap (λ (es : List Entry). es ++ ys) e ∙ f

-- nothing is done with any connection as some are closed
closing_passes : (past : Past) (own : List Entry) (done : Past) (s : Server) → Stretch own done past → Closes s past own done → Passes done past
closing_passes past own done s stretch closes = record {
  stretch = subst (λ (es : List Entry). Stretch es done past) closes.none stretch;
  aside = λ c. acts_aside c done closes.turns (closes.unanswered c);
}

behind_passing : (s : Server) (c : ℕ) (past done more : Past) → due done ≡ None → Passes more (done ++ past)
    → (IsUnknown c s.connections.items × IsPassedBy c past done) ⊎ IsReached c past done
    → (IsUnknown c s.connections.items × IsPassedBy c past (more ++ done)) ⊎ IsReached c past (more ++ done)
behind_passing s c past done more none h (inl k) = inl (k.0, passed_behind c done more past h k.1)
behind_passing s c past done more none h (inr k) = inr (reached_behind c done more past h none k)

pub delivered : (a b d : Server) (log1 log2 log3 : List Act) → SameNumbers a b → Goes (ServesAll b) a log1 b log2 → Goes (Closes d) b log2 d log3
    → Acts (Delivers a) a log1 d log3
delivered a b d log1 log2 log3 numbers serves closes g before past kept =
    let w = serves g before past kept tt in
    let v = closes g before (w.done ++ past) w.kept tt in
    let passes = closing_passes (w.done ++ past) v.own v.done d v.stretch v.so in
    acted_then g before (Delivers a past) past w.done v.done w.own v.own log3 d w.stretch v.stretch w.unread v.unread v.kept (
      none_then w.own v.own w.so.0 v.so.none,
      λ c. behind_passing a c past w.done v.done w.stretch.due_is passes (each_delivered g before past log2 a b numbers w c),
    )

-- ---- the connections that are left

pub live_then : (a b d : Server) (log1 log2 log3 : List Act) → IsServing log1 a → Goes (ServesAll b) a log1 b log2 → Goes (Closes d) b log2 d log3 → AllLive d
live_then a b d log1 log2 log3 serving serves closes at k there =
    let w = serves serving.given serving.before serving.past serving.kept tt in
    (closes serving.given serving.before (w.done ++ serving.past) w.kept tt).so.live at k there

-- ---- where nothing is left to do

module _ (g : Given) (before : List Act) (past : Past) (log : List Act) (s : Server) (kept : IsKept g before past log s) (still : IsStill s) where
  taken_known : (c : ℕ) → is_open c past ≡ true → IsKnown c s.connections.items → messages_for c s.desk.now ≡ []
  taken_known c opened known =
      let k = known.1.connection in
      let live : is_live k.inbound.stage ≡ true =
      sym (kept.agree known.0 k known.1.there).live ∙ ap (λ n. is_open n past) known.1.number ∙ opened in
      subst (λ n. messages_for n s.desk.now ≡ []) known.1.number (still.taken known.0 k known.1.there (live_is k.inbound.stage live))

  pub taken_open : (c : ℕ) → is_open c past ≡ true → messages_for c s.desk.now ≡ []
  taken_open c opened =
      ⊎_elim (λ known. taken_known c opened known)
      (λ unknown. (let f : true ≡ false = sym opened ∙ (kept.forgotten c unknown).shut in absurd (cc))) (is_there c s.connections.items)

-- it stays so as some are closed
module _ (g : Given) (before : List Act) (past : Past) (log log2 : List Act) (a b : Server) (kept : IsKept g before past log a)
    (w : Went g before (Closes b past) past log2 b) (desk : b.desk ≡ a.desk) (still : IsStill a) where
  was_open : (k : Connection) → Passes w.done past → Agrees (w.done ++ past) k → is_live k.inbound.stage ≡ true → is_open (number_of k) past ≡ true
  was_open k passes agrees live = sym (open_stays (number_of k) w.done past (passes.aside (number_of k)) passes.stretch.own_is) ∙ agrees.live ∙ live

  still_closed : IsStill b
  still_closed = record {
    jobs = ap (λ (d : DeskView). d.now.jobs) desk ∙ still.jobs;
    taken = λ at k there live.
        ap (λ (d : DeskView). messages_for (number_of k) d.now) desk
        ∙ taken_open g before past log a kept still (number_of k)
        (was_open k (closing_passes past w.own w.done b w.stretch w.so) (w.kept.agree at k there) (ap is_live live));
  }

pub still_then : (a b d : Server) (log1 log2 log3 : List Act) → IsServing log1 a → Goes (ServesAll b) a log1 b log2 → Goes (Closes d) b log2 d log3 → d.desk ≡ b.desk
    → IsStill b → IsStill d
still_then a b d log1 log2 log3 serving serves closes desk still =
    let w = serves serving.given serving.before serving.past serving.kept tt in
    still_closed serving.given serving.before (w.done ++ serving.past) log2 log3 b d w.kept
    (closes serving.given serving.before (w.done ++ serving.past) w.kept tt) desk still
