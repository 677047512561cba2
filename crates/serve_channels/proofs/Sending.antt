-- What was taken out for a connection is sent: where sends stand in a stretch, and what they leave of each connection.
use Rattle.std.proofs.Common.{◌≡◌, ◌≢◌, ℕ, ◌==◌, Bool, true, false, cond, ◌&&◌, ◌||◌, List, [], ◌∷◌, ◌++◌, Option, None, set, append-nil, append_assoc, eq-eqb, eqb-true, refl, sym, ap, ◌∙◌, subst}
use Rattle.std.proofs.Math.Bool.{or-false}
use Rattle.std.specs.Prelude.{Some}
use Rattle.std.specs.List.{list_all, slice_get}
use Rattle.std.specs.Option.{option_or}
use Rattle.std.proofs.lemmas.Bool.{and_parts, ne_eqb}
use Rattle.std.proofs.lemmas.Grind.{flat_map-append}
use Rattle.std.proofs.lemmas.List.{append_cancel_left}
use Rattle.std.proofs.lemmas.List.Folds.{list_any-append}
use Rattle.machine_desk.proofs.Crewed.{same_crew}
use Rattle.maple_io.specs.Fronts.{IsFront}
use Rattle.maple_io.specs.declared.act.Act.{Act}
use Rattle.maple_io.specs.declared.act.Act.TheVariants as acts
use Rattle.maple_io.specs.declared.board.Sent.{Sent}
use Rattle.maple_io.specs.declared.board.Sent.TheVariants as sends
use Rattle.maple_io.specs.Boards.{is_closing, sent, sent_in, was_closed}
use Rattle.board_lines.specs.Deliveries.{is_good_send}
use Rattle.board_lines.specs.Queues.{QueueView}
use Rattle.machine_steps.specs.declared.entry.Entry.{Entry}
use Rattle.serve_steps.specs.Runs.{taken_report}
use Rattle.serve_steps.specs.Deeds.{Past, acts_of, answer_to, bytes_of, fails, has_failed, last_answer, taken_of, turns_of}
use Rattle.serve_steps.specs.Deeds.Deed.{Does}
use Rattle.serve_steps.specs.Parts.{Given, SendsNext, all_told, due_by, is_quiet, keeps_due, own_of}
use Rattle.serve_channels.specs.declared.connection.Connection.{Connection}
use Rattle.serve_channels.specs.declared.server.Server.{Server}
use Rattle.serve_channels.specs.Keeping.{Agrees}
use Rattle.serve_channels.specs.Servers.{IsUnknown, number_of}
use Rattle.serve_channels.specs.Stretches.{IsAside, Owes, Stretch}
use Rattle.serve_channels.proofs.Acts.{acts_did, agrees_on, alike_of, did, did_last, did_on, is_quiet_act, stays_did, stays_one, stays_then, turns_did, unread_did}
use Rattle.serve_channels.proofs.Alike.{IsAlike, alike_same, alike_then}
use Rattle.serve_channels.proofs.Entering.{IsUnderWay}
use Rattle.serve_channels.proofs.Kept.{IsKeptBut, kept_at, set_unknown}
use Rattle.serve_channels.proofs.Others.{IsLawful}

-- ---- one act in a stretch

pub owes_act : (to : Option ℕ) (own : List Entry) (done past : Past) (act : Act) → is_quiet_act act ≡ true → due_by (Does act) None ≡ to → SendsNext (Does act) (done ++ past)
    → Stretch own done past → Owes to own (Does act ∷ done) past
owes_act to own done past act quiet due_is next h = record {
  quiet = ap (λ (b : Bool). b && list_all is_quiet done) quiet ∙ h.quiet;
  own_is = append-nil (own_of done) ∙ h.own_is;
  memory = h.memory;
  while_open = (tt, h.while_open);
  told = ap (λ (o : Option ℕ). keeps_due o (Does act) && all_told done) h.due_is ∙ h.told;
  due_is = ap (λ (o : Option ℕ). due_by (Does act) o) h.due_is ∙ due_is;
  free = (tt, h.free);
  in_order = (next, h.in_order);
}

-- ---- sends

-- a send to this connection
pub record IsSendTo (c : ℕ) (act : Act) : Type 0 where
  pub quiet : is_quiet_act act ≡ true
  pub next : (past : Past) → IsFront (sent c (acts_of past) ++ sent_in c act) (taken_of c past) → was_closed c (acts_of past) ≡ false → SendsNext (Does act) past
  pub others : (d : ℕ) → d ≢ c → sent_in d act ≡ []
  pub unanswered : (d : ℕ) → d ≢ c → answer_to d (Does act) ≡ None
  pub whole : (d : ℕ) → d ≢ c → fails d (Does act) ≡ false
  pub left : (d : ℕ) → is_closing d act ≡ false

-- one that didn't fail
pub record IsGood (c : ℕ) (act : Act) : Type 0 where
  pub is : IsSendTo c act
  pub none : due_by (Does act) None ≡ None
  pub own : fails c (Does act) ≡ false

fails_another : (d e : ℕ) (bytes : List ℕ) (answer : Sent) → (d == e) ≡ false → fails e (Does (acts.Takes d bytes answer)) ≡ false
fails_another d e bytes (sends.Took n) other = refl
fails_another d e bytes sends.NotYet other = refl
fails_another d e bytes sends.Failed other = other
fails_another d e bytes sends.NoMemory other = refl

pub send_to : (c d : ℕ) (bytes : List ℕ) (answer : Sent) → (d == c) ≡ true → IsSendTo c (acts.Takes d bytes answer)
send_to c d bytes answer own =
    let is : d ≡ c = eqb-true d c own in
    let another : (e : ℕ) → e ≢ c → (d == e) ≡ false = λ e other. ne_eqb d e (λ same. other (sym same ∙ is)) in
    record {
      quiet = refl;
      next = λ past front unclosed. (
        subst (λ (e : ℕ). IsFront (sent e (acts_of past) ++ bytes) (taken_of e past)) (sym is)
            (subst (λ (b : Bool). IsFront (sent c (acts_of past) ++ cond b bytes []) (taken_of c past)) own front),
        subst (λ (e : ℕ). was_closed e (acts_of past) ≡ false) (sym is) unclosed,
      );
      others = λ e other. ap (λ (b : Bool). cond b bytes []) (another e other);
      unanswered = λ e other. ap (λ (b : Bool). cond b (Some answer) None) (another e other);
      whole = λ e other. fails_another d e bytes answer (another e other);
      left = λ e. refl;
    }

good_is : (c : ℕ) (act : Act) → is_good_send c act ≡ true → IsGood c act
good_is c (acts.Takes d bytes (sends.Took n)) h = record { is = send_to c d bytes (sends.Took n) h; none = refl; own = refl }
good_is c (acts.Takes d bytes sends.NotYet) h = record { is = send_to c d bytes sends.NotYet h; none = refl; own = refl }
good_is c (acts.Takes d bytes sends.NoMemory) h = record { is = send_to c d bytes sends.NoMemory h; none = refl; own = refl }
good_is c (acts.Takes d bytes sends.Failed) h = absurd (cc h)
good_is c (acts.Starts listen control) h = absurd (cc h)
good_is c (acts.Gives t bytes) h = absurd (cc h)
good_is c (acts.Closes d) h = absurd (cc h)

abbrev pub AreGood : ℕ → List Act → Type 0
AreGood c more = list_all (is_good_send c) more ≡ true

first_good : (c : ℕ) (a : Act) (more : List Act) → AreGood c (a ∷ more) → IsGood c a
first_good c a more h = good_is c a (and_parts (is_good_send c a) (list_all (is_good_send c) more) h).0

rest_good : (c : ℕ) (a : Act) (more : List Act) → AreGood c (a ∷ more) → AreGood c more
rest_good c a more h = (and_parts (is_good_send c a) (list_all (is_good_send c) more) h).1

are_quiet : (c : ℕ) (more : List Act) → AreGood c more → list_all is_quiet_act more ≡ true
are_quiet c [] h = refl
are_quiet c (a ∷ more) h = ap (λ (b : Bool). b && list_all is_quiet_act more) (first_good c a more h).is.quiet ∙ are_quiet c more (rest_good c a more h)

-- ---- what one leaves of any connection

sent_one : (d : ℕ) (act : Act) (past : Past) → sent d (acts_of (Does act ∷ past)) ≡ sent d (acts_of past) ++ sent_in d act
sent_one d act past = flat_map-append (sent_in d) (acts_of past) (act ∷ []) ∙ ap (λ (bs : List ℕ). sent d (acts_of past) ++ bs) (append-nil (sent_in d act))

closed_one : (c d : ℕ) (act : Act) (past : Past) → IsSendTo c act → was_closed d (acts_of (Does act ∷ past)) ≡ was_closed d (acts_of past)
closed_one c d act past is =
    list_any-append (is_closing d) (acts_of past) (act ∷ []) ∙ ap (λ (b : Bool). was_closed d (acts_of past) || (b || false)) (is.left d) ∙ or-false (was_closed d (acts_of past))

alike_one : (c d : ℕ) (act : Act) (past : Past) → IsSendTo c act → d ≢ c → IsAlike d past (Does act ∷ past)
alike_one c d act past is other =
    alike_of d past (Does act ∷ past) (stays_one d act past is.quiet)
    (sent_one d act past ∙ ap (λ (bs : List ℕ). sent d (acts_of past) ++ bs) (is.others d other) ∙ append-nil (sent d (acts_of past)))
    (ap (λ (b : Bool). b || has_failed d past) (is.whole d other)) (closed_one c d act past is)

pub aside_one : (c d : ℕ) (act : Act) (done : Past) → IsSendTo c act → d ≢ c → IsAside d done → IsAside d (Does act ∷ done)
aside_one c d act done is other h =
    let same = alike_one c d act done is other in
    record {
      taken = same.taken ∙ h.taken;
      unsent = same.sent_is ∙ h.unsent;
      unanswered = ap (λ (o : Option Sent). option_or o (last_answer d done)) (is.unanswered d other) ∙ h.unanswered;
      unfailed = same.failed ∙ h.unfailed;
      unended = same.over ∙ h.unended;
    }

-- ---- what sends leave that didn't fail

pub alike_good : (c d : ℕ) (more : List Act) (past : Past) → AreGood c more → d ≢ c → IsAlike d past (did more past)
alike_good c d [] past h other = alike_same d past
alike_good c d (a ∷ more) past h other =
    alike_then d past (Does a ∷ past) (did more (Does a ∷ past)) (alike_one c d a past (first_good c a more h).is other)
    (alike_good c d more (Does a ∷ past) (rest_good c a more h) other)

pub aside_good : (c d : ℕ) (more : List Act) (done : Past) → AreGood c more → d ≢ c → IsAside d done → IsAside d (did more done)
aside_good c d [] done h other aside = aside
aside_good c d (a ∷ more) done h other aside =
    aside_good c d more (Does a ∷ done) (rest_good c a more h) other (aside_one c d a done (first_good c a more h).is other aside)

none_failed : (c : ℕ) (more : List Act) (past : Past) → AreGood c more → has_failed c (did more past) ≡ has_failed c past
none_failed c [] past h = refl
none_failed c (a ∷ more) past h = none_failed c more (Does a ∷ past) (rest_good c a more h) ∙ ap (λ (b : Bool). b || has_failed c past) (first_good c a more h).own

none_closed : (c : ℕ) (more : List Act) (past : Past) → AreGood c more → was_closed c (acts_of (did more past)) ≡ was_closed c (acts_of past)
none_closed c [] past h = refl
none_closed c (a ∷ more) past h = none_closed c more (Does a ∷ past) (rest_good c a more h) ∙ closed_one c c a past (first_good c a more h).is

sent_did : (c : ℕ) (more : List Act) (past : Past) → sent c (acts_of (did more past)) ≡ sent c (acts_of past) ++ sent c more
sent_did c more past = ap (sent c) (acts_did more past) ∙ flat_map-append (sent_in c) (acts_of past) more

-- ---- they stand in a stretch, where what they send is what comes next

regroup : (ahead here more rest : List ℕ) → (ahead ++ here) ++ (more ++ rest) ≡ ahead ++ ((here ++ more) ++ rest)
regroup ahead here more rest = append_assoc ahead here (more ++ rest) ∙ ap (λ (bs : List ℕ). ahead ++ bs) (sym (append_assoc here more rest))

pub good_stretch : (c : ℕ) (more : List Act) (own : List Entry) (done past : Past) (rest : List ℕ) → AreGood c more
    → sent c (acts_of (done ++ past)) ++ (sent c more ++ rest) ≡ taken_of c (done ++ past) → was_closed c (acts_of (done ++ past)) ≡ false → Stretch own done past
    → Stretch own (did more done) past
good_stretch c [] own done past rest h all unclosed stretch = stretch
good_stretch c (a ∷ more) own done past rest h all unclosed stretch =
    let good = first_good c a more h in
    let on : (sent c (acts_of (done ++ past)) ++ sent_in c a) ++ (sent c more ++ rest) ≡ taken_of c (done ++ past) =
    regroup (sent c (acts_of (done ++ past))) (sent_in c a) (sent c more) rest ∙ all in
    good_stretch c more own (Does a ∷ done) past rest (rest_good c a more h)
    (ap (λ (bs : List ℕ). bs ++ (sent c more ++ rest)) (sent_one c a (done ++ past)) ∙ on ∙ sym (append-nil (taken_of c (done ++ past))))
    (closed_one c c a (done ++ past) good.is ∙ unclosed)
    (owes_act None own done past a good.is.quiet good.none (good.is.next (done ++ past) (sent c more ++ rest, on) unclosed) stretch)

-- ---- all that is left is sent

-- the connection at this place has another queue, and nothing else changed
pub record Requeues (at : ℕ) (k : Connection) (l : QueueView) (a b : Server) : Type 0 where
  pub there : slice_get a.connections.items at ≡ Some k
  pub rest : b ≡ record a { connections = b.connections }
  pub set_is : b.connections.items ≡ set a.connections.items at (record k { queue = l })

-- what was sent is the front of what was left
left_is : (c : ℕ) (old new more : List Act) (rest left : List ℕ) → new ≡ old ++ more → sent c new ++ left ≡ sent c old ++ rest → sent c more ++ left ≡ rest
left_is c old new more rest left log own =
    append_cancel_left (sent c old) (sent c more ++ left) rest
    (sym (append_assoc (sent c old) (sent c more) left) ∙ ap (λ (bs : List ℕ). bs ++ left) (sym (ap (sent c) log ∙ flat_map-append (sent_in c) old more)) ∙ own)

module _ {g : Given} {before : List Act} {past : Past} {own : List Entry} {done : Past} {old : List Act} {at : ℕ} {k : Connection} {l : QueueView} {a b : Server}
    (u : IsUnderWay g before past None own done old a) (h : Requeues at k l a b) (new : List Act) where
  abbrev pub so_far : Past
  so_far = done ++ past

  agreed : Agrees so_far k
  agreed = u.kept.agree at k h.there

  kept_requeued : (now : Past) → turns_of now ≡ turns_of so_far → new ≡ before ++ acts_of now → ((d : ℕ) → bytes_of d now ≡ bytes_of d so_far)
      → ((d : ℕ) → d ≢ number_of k → IsAlike d so_far now) → Agrees now (record k { queue = l }) → IsKeptBut g before now new b
  kept_requeued now turns log bytes others agrees =
      subst (λ (x : Server). IsKeptBut g before now new x) (sym h.rest) (let c : Server = record a { connections = b.connections } in
      kept_at u.kept (record { same = record { footing = refl; crew = same_crew a.crew }; turns = u.kept.turns ∙ sym turns; acts = log; settings = refl })
      at k (record k { queue = l }) h.there h.set_is refl agrees (u.kept.sessions.staged at k h.there)
      (λ d other. record { alike = others d other; bytes = λ known. bytes d; session = record { live = refl; opened = refl } }))

  lawful_still : IsLawful b.desk
  lawful_still = subst (λ (x : Server). IsLawful x.desk) (sym h.rest) u.law

  gone : (c : ℕ) → IsUnknown c b.connections.items → IsUnknown c a.connections.items × (c ≢ number_of k)
  gone = set_unknown a.connections.items b.connections.items at k (record k { queue = l }) h.there h.set_is refl

  goes_requeued : (to : Option ℕ) (more : Past) → Owes to own more past → turns_of (more ++ past) ≡ turns_of so_far → new ≡ before ++ acts_of (more ++ past)
      → ((d : ℕ) → bytes_of d (more ++ past) ≡ bytes_of d so_far) → ((d : ℕ) → d ≢ number_of k → IsAlike d so_far (more ++ past)) → Agrees (more ++ past) (record k { queue = l })
      → ((d : ℕ) → d ≢ number_of k → IsAside d done → IsAside d more) → taken_report more ≡ []
      → IsUnderWay g before past to own more new b
  goes_requeued to more owes turns log bytes others agrees aside unread = record {
    owes = owes;
    kept = kept_requeued (more ++ past) turns log bytes others agrees;
    law = lawful_still;
    aside = λ c unknown. aside c (gone c unknown).1 (u.aside c (gone c unknown).0);
    unread = unread;
  }

  module _ (more : List Act) (log : new ≡ old ++ more) (own_is : sent (number_of k) new ++ l.rest ≡ sent (number_of k) old ++ k.queue.rest) where
    all_is : sent (number_of k) (acts_of so_far) ++ (sent (number_of k) more ++ l.rest) ≡ taken_of (number_of k) so_far
    all_is = ap (λ (bs : List ℕ). sent (number_of k) (acts_of so_far) ++ bs) (left_is (number_of k) old new more k.queue.rest l.rest log own_is) ∙ sym agreed.step

    log_is : new ≡ before ++ acts_of (did more so_far)
    log_is =
        log ∙ ap (λ (x : List Act). x ++ more) u.kept.acts ∙ append_assoc before (acts_of so_far) more ∙ ap (λ (x : List Act). before ++ x) (sym (acts_did more so_far))

    step_is : taken_of (number_of k) so_far ≡ sent (number_of k) (acts_of (did more so_far)) ++ l.rest
    step_is =
        sym all_is ∙ sym (append_assoc (sent (number_of k) (acts_of so_far)) (sent (number_of k) more) l.rest)
        ∙ ap (λ (bs : List ℕ). bs ++ l.rest) (sym (sent_did (number_of k) more so_far))

  -- no send failed
  module _ (more : List Act) (log : new ≡ old ++ more) (own_is : sent (number_of k) new ++ l.rest ≡ sent (number_of k) old ++ k.queue.rest)
      (number : l.number ≡ k.queue.number) (same : l.failed ≡ k.queue.failed) (good : AreGood (number_of k) more) where
    pub goes_good : IsUnderWay g before past None own (did more done) new b
    goes_good =
        let on = did_on more done past in
        goes_requeued None (did more done)
        (good_stretch (number_of k) more own done past l.rest good (all_is more log own_is) agreed.closed u.owes)
        (ap turns_of on ∙ turns_did more so_far) (log_is more log own_is ∙ ap (λ (p : Past). before ++ acts_of p) (sym on))
        (λ d. ap (bytes_of d) on ∙ (stays_did d more so_far (are_quiet (number_of k) more good)).bytes)
        (λ d other. subst (λ (p : Past). IsAlike d so_far p) (sym on) (alike_good (number_of k) d more so_far good other))
        (subst (λ (p : Past). Agrees p (record k { queue = l })) (sym on)
        (agrees_on so_far (did more so_far) k (record k { queue = l }) refl number (stays_did (number_of k) more so_far (are_quiet (number_of k) more good)) agreed
        (step_is more log own_is) (same ∙ agreed.failed ∙ sym (none_failed (number_of k) more so_far good))
        (none_closed (number_of k) more so_far good ∙ agreed.closed)))
        (λ d other aside. aside_good (number_of k) d more done good other aside) (unread_did more done ∙ u.unread)

  -- the last one failed
  module _ (more : List Act) (log : new ≡ old ++ (more ++ acts.Takes (number_of k) [] sends.Failed ∷ []))
      (own_is : sent (number_of k) new ++ l.rest ≡ sent (number_of k) old ++ k.queue.rest)
      (number : l.number ≡ k.queue.number) (good : AreGood (number_of k) more) (failed : l.failed ≡ true) where
    abbrev pub failing : Act
    failing = acts.Takes (number_of k) [] sends.Failed

    is_send : IsSendTo (number_of k) failing
    is_send = send_to (number_of k) (number_of k) [] sends.Failed (eq-eqb (number_of k) (number_of k) refl)

    last_is : (p : Past) → did (more ++ failing ∷ []) p ≡ Does failing ∷ did more p
    last_is p = did_last more failing p

    -- it sends nothing
    sends_none : sent (number_of k) (more ++ failing ∷ []) ≡ sent (number_of k) more
    sends_none =
        flat_map-append (sent_in (number_of k)) more (failing ∷ [])
        ∙ ap (λ (b : Bool). sent (number_of k) more ++ (cond {A = List ℕ} b [] [] ++ [])) (eq-eqb (number_of k) (number_of k) refl) ∙ append-nil (sent (number_of k) more)

    front : IsFront (sent (number_of k) (acts_of (did more so_far)) ++ sent_in (number_of k) failing) (taken_of (number_of k) (did more so_far))
    front = (
      l.rest,
      ap (λ (b : Bool). (sent (number_of k) (acts_of (did more so_far)) ++ cond {A = List ℕ} b [] []) ++ l.rest) (eq-eqb (number_of k) (number_of k) refl)
          ∙ ap (λ (bs : List ℕ). bs ++ l.rest) (append-nil (sent (number_of k) (acts_of (did more so_far))))
          ∙ ap (λ (bs : List ℕ). bs ++ l.rest) (sent_did (number_of k) more so_far)
          ∙ append_assoc (sent (number_of k) (acts_of so_far)) (sent (number_of k) more) l.rest
          ∙ ap (λ (bs : List ℕ). sent (number_of k) (acts_of so_far) ++ (bs ++ l.rest)) (sym sends_none)
          ∙ all_is (more ++ failing ∷ []) log own_is
          ∙ sym (stays_did (number_of k) more so_far (are_quiet (number_of k) more good)).taken,
    )

    pub goes_failed : IsUnderWay g before past (Some (number_of k)) own (Does failing ∷ did more done) new b
    goes_failed =
        let on : (Does failing ∷ did more done) ++ past ≡ Does failing ∷ did more so_far = ap (λ (p : Past). Does failing ∷ p) (did_on more done past) in
        let all = more ++ failing ∷ [] in
        let stretch = good_stretch (number_of k) more own done past l.rest good
        (ap (λ (bs : List ℕ). sent (number_of k) (acts_of so_far) ++ (bs ++ l.rest)) (sym sends_none) ∙ all_is all log own_is) agreed.closed u.owes in
        let same : has_failed (number_of k) (Does failing ∷ did more so_far) ≡ true =
        ap (λ (b : Bool). b || has_failed (number_of k) (did more so_far)) (eq-eqb (number_of k) (number_of k) refl) in
        goes_requeued (Some (number_of k)) (Does failing ∷ did more done) (owes_act (Some (number_of k)) own (did more done) past failing refl refl
        (is_send.next (did more done ++ past) (subst (λ (p : Past). IsFront (sent (number_of k) (acts_of p) ++ sent_in (number_of k) failing) (taken_of (number_of k) p)) (sym (did_on more done past)) front)
        (subst (λ (p : Past). was_closed (number_of k) (acts_of p) ≡ false) (sym (did_on more done past)) (none_closed (number_of k) more so_far good ∙ agreed.closed)))
        stretch) (ap turns_of on ∙ append-nil (turns_of (did more so_far)) ∙ turns_did more so_far)
        (log_is all log own_is ∙ ap (λ (p : Past). before ++ acts_of p) (last_is so_far ∙ sym on))
        (λ d. ap (bytes_of d) on ∙ (stays_did d more so_far (are_quiet (number_of k) more good)).bytes) (λ d other. subst (λ (p : Past). IsAlike d so_far p) (sym on)
        (alike_then d so_far (did more so_far) (Does failing ∷ did more so_far) (alike_good (number_of k) d more so_far good other)
        (alike_one (number_of k) d failing (did more so_far) is_send other))) (subst (λ (p : Past). Agrees p (record k { queue = l })) (sym on)
        (agrees_on so_far (Does failing ∷ did more so_far) k (record k { queue = l }) refl number
        (stays_then (number_of k) so_far (did more so_far) (Does failing ∷ did more so_far) (stays_did (number_of k) more so_far (are_quiet (number_of k) more good))
        (stays_one (number_of k) failing (did more so_far) refl)) agreed
        (step_is all log own_is ∙ ap (λ (p : Past). sent (number_of k) (acts_of p) ++ l.rest) (last_is so_far)) (failed ∙ sym same)
        (closed_one (number_of k) (number_of k) failing (did more so_far) is_send ∙ none_closed (number_of k) more so_far good ∙ agreed.closed)))
        (λ d other aside. aside_one (number_of k) d failing (did more done) is_send other (aside_good (number_of k) d more done good other aside))
        (append-nil (taken_report (did more done)) ∙ unread_did more done ∙ u.unread)
