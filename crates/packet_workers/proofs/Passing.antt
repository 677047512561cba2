-- What a pass did, put together.
use Rattle.std.proofs.Common.{◌≡◌, ℕ, zero, suc, ◌+◌, ◌≤◌, List, [], ◌∷◌, ◌++◌, slice_get, sym, refl, ap, ◌∙◌, subst, arith, append-nil, append_assoc, IsTrue, Some}
use Rattle.std.proofs.lemmas.List.{append_cancel_left}
use Rattle.history_lock.specs.Histories.{AreAllowed, HasSeenLegal, IsAllowedSince, Calls, Did, AllAt, Replays, event}
use Rattle.history_lock.proofs.Deeds.{did_none, did_more}
use Rattle.history_lock.proofs.Leads.{since_same}
use Rattle.history_lock.proofs.Lists.{starts_trans}
use Rattle.machine_steps.specs.declared.entry.Entry.{Entry}
use Rattle.machine_steps.specs.declared.reply.Reply.{Reply}
use Rattle.machine_steps.specs.Machine.{State}
use Rattle.machine_sharing.specs.Sharing.{Allows, Call, Turns, stale_count}
use Rattle.packet_workers.specs.Adding.{PassView, Adds}

pub stale_append : (job : ℕ) (xs ys : List Call) → stale_count job (xs ++ ys) ≡ stale_count job xs + stale_count job ys
stale_append job [] ys = omega arith
stale_append job (x ∷ xs) ys = let rest = stale_append job xs ys in omega (arith, rest)

pub get_more : {X : Type 0} (xs ys : List X) (p : ℕ) (x : X) → slice_get xs p ≡ Some x → slice_get (xs ++ ys) p ≡ Some x
get_more [] ys p x e = cc
get_more (y ∷ xs) ys zero x e = e
get_more (y ∷ xs) ys (suc p) x e = get_more xs ys p x e

module _ {X : Type 0} where
  pub all_more : (xs ys : List X) (ps : List ℕ) (cs : List X) → AllAt xs ps cs → AllAt (xs ++ ys) ps cs
  all_more xs ys [] [] all = tt
  all_more xs ys [] (c ∷ cs) all = absurd all
  all_more xs ys (p ∷ ps) [] all = absurd all
  all_more xs ys (p ∷ ps) (c ∷ cs) (h, all) = (get_more xs ys p c h, all_more xs ys ps cs all)

  pub all_append : (xs : List X) (ps qs : List ℕ) (cs bs : List X) → AllAt xs ps cs → AllAt xs qs bs → AllAt xs (ps ++ qs) (cs ++ bs)
  all_append xs [] qs [] bs a b = b
  all_append xs [] qs (c ∷ cs) bs a b = absurd a
  all_append xs (p ∷ ps) qs [] bs a b = absurd a
  all_append xs (p ∷ ps) qs (c ∷ cs) bs (h, a) b = (h, all_append xs ps qs cs bs a b)

  -- the calls at some positions are determined
  all_same : (xs : List X) (ps : List ℕ) (cs bs : List X) → AllAt xs ps cs → AllAt xs ps bs → cs ≡ bs
  all_same xs [] [] [] a b = refl
  all_same xs [] (c ∷ cs) bs a b = absurd a
  all_same xs [] [] (d ∷ bs) a b = absurd b
  all_same xs (p ∷ ps) [] bs a b = absurd a
  all_same xs (p ∷ ps) (c ∷ cs) [] a b = absurd b
  all_same xs (p ∷ ps) (c ∷ cs) (d ∷ bs) (h, a) (k, b) = let tails = all_same xs ps cs bs a b in let heads : c ≡ d = cc in cc

did_then : (u v w : PassView) (cs bs : List Call) → Did u cs v → Did v bs w → Did u (cs ++ bs) w
did_then u v w cs bs a b =
    let P : List Call → Type 0 = λ x. AllAt x a.positions cs in
    record {
      positions = a.positions ++ b.positions;
      own = b.own ∙ ap (λ x. x ++ b.positions) a.own ∙ append_assoc u.own a.positions b.positions;
      later = starts_trans w.seen v.seen u.seen b.later a.later;
      at = all_append w.seen a.positions b.positions cs bs (subst P (sym b.later.1) (all_more v.seen b.later.0 a.positions cs a.at)) b.at;
    }

did_same : (u v : PassView) (cs bs : List Call) → Did u cs v → Did u bs v → cs ≡ bs
did_same u v cs bs a b =
    let same : a.positions ≡ b.positions = append_cancel_left u.own a.positions b.positions (sym a.own ∙ b.own) in
    let P : List ℕ → Type 0 = λ ps. AllAt v.seen ps cs in
    all_same v.seen b.positions cs bs (subst P same a.at) b.at

abbrev L : Type 0
L = List Call

are_append : (log xs ys : L) → AreAllowed Allows log xs → AreAllowed Allows (log ++ xs) ys → AreAllowed Allows log (xs ++ ys)
are_append log [] ys a b = let P : L → Type 0 = λ x. AreAllowed Allows x ys in subst P (append-nil log) b
are_append log (e ∷ xs) ys (one, a) b =
    (one, are_append (log ++ e ∷ []) xs ys a (let P : L → Type 0 = λ x. AreAllowed Allows x ys in subst P (sym (append_assoc log (e ∷ []) xs)) b))

since_then : (w v u : L) → IsAllowedSince Allows w v → IsAllowedSince Allows v u → IsAllowedSince Allows w u
since_then w v u (r, is, are) (s, was, were) =
    (s ++ r, is ∙ ap (λ x. x ++ r) was ∙ append_assoc u s r, are_append u s r were (let P : L → Type 0 = λ x. AreAllowed Allows x r in subst P was are))

-- what stays of a pass in a call
pub record Stays (u v : PassView) : Type 0 where
  pub opening : v.opening ≡ u.opening
  pub parts : v.parts ≡ u.parts
  pub leads : v.leads ≡ u.leads

pub adds_none : (u : PassView) → Adds u [] u
adds_none u = record {
  did = did_none u;
  led = λ lead. since_same Allows u.seen;
  alone = λ all. sym (append-nil u.seen);
  legal = λ h. h;
  opening = refl;
  parts = refl;
  leads = refl;
}

legal_kept : (u v : PassView) → v.seen ≡ u.seen → v.opening ≡ u.opening → HasSeenLegal Turns u → HasSeenLegal Turns v
legal_kept u v seen opening (m, (begun, opens, replays)) =
    (m, (begun, opening ∙ opens, (let P : L → Type 0 = λ x. Replays Turns begun x m in subst P (sym seen) replays)))

-- a call that was refused left both lists as they were
pub adds_kept : (u v : PassView) → Stays u v → v.seen ≡ u.seen → v.own ≡ u.own → Adds u [] v
adds_kept u v s seen own = record {
  did = record { positions = []; own = own ∙ sym (append-nil u.own); later = ([], seen ∙ sym (append-nil u.seen)); at = tt };
  led = λ lead. (let P : L → Type 0 = λ x. IsAllowedSince Allows x u.seen in subst P (sym seen) (since_same Allows u.seen));
  alone = λ all. seen ∙ sym (append-nil u.seen);
  legal = legal_kept u v seen s.opening;
  opening = s.opening;
  parts = s.parts;
  leads = s.leads;
}

-- one call, which was allowed
pub adds_one : (u v : PassView) (entry : Entry) (reply : Reply) (c : Calls Turns Allows u entry reply v) → Stays u v → (IsTrue u.leads → Allows c.log entry)
    → Adds u (event entry reply c.behind ∷ []) v
adds_one u v entry reply c s allowed =
    let e : Call = event entry reply c.behind in
    let P : L → Type 0 = λ x. IsAllowedSince Allows x u.seen in
    let Q : L → Type 0 = λ x. Allows x entry in
    record {
      did = did_more Turns Allows u u [] entry reply v (did_none u) c;
      led = λ lead. subst P (sym (c.seen ∙ ap (λ x. x ++ e ∷ []) c.later.1 ∙ append_assoc u.seen c.later.0 (e ∷ [])))
          (c.later.0 ++ e ∷ [], refl, are_append u.seen c.later.0 (e ∷ []) (c.led lead) (subst Q c.later.1 (allowed lead), tt));
      alone = λ all. c.seen ∙ ap (λ x. x ++ e ∷ []) (c.alone all);
      legal = λ _. (c.legal.0, (c.opening, c.opens, c.legal.1));
      opening = s.opening;
      parts = s.parts;
      leads = s.leads;
    }

pub adds_then : (u v w : PassView) (cs bs : List Call) → Adds u cs v → Adds v bs w → Adds u (cs ++ bs) w
adds_then u v w cs bs a b = record {
  did = did_then u v w cs bs a.did b.did;
  led = λ lead. since_then w.seen v.seen u.seen (b.led (a.leads ∙ lead)) (a.led lead);
  alone = λ all. b.alone (a.parts ∙ all) ∙ ap (λ x. x ++ bs) (a.alone all) ∙ append_assoc u.seen cs bs;
  legal = λ h. b.legal (a.legal h);
  opening = b.opening ∙ a.opening;
  parts = b.parts ∙ a.parts;
  leads = b.leads ∙ a.leads;
}

pub adds_same : (u v : PassView) (cs bs : List Call) → Adds u cs v → Adds u bs v → cs ≡ bs
adds_same u v cs bs a b = did_same u v cs bs a.did b.did

pub stale_grows : (job : ℕ) (u v : PassView) (cs : List Call) → Adds u cs v → stale_count job u.seen ≤ stale_count job v.seen
stale_grows job u v cs a = let whole = ap (stale_count job) a.did.later.1 in let parts = stale_append job u.seen a.did.later.0 in omega (arith, whole, parts)
