-- What workers did, put together.
use Rattle.std.proofs.Common.{◌≡◌, ℕ, ◌≤◌, ◌^◌, max, List, [], ◌∷◌, ◌++◌, Ok, Err, sym, refl, ap, ◌∙◌, subst, arith, append-nil, append_assoc}
use Rattle.std.specs.Result.{result_and}
use Rattle.history_lock.specs.declared.view.Event.{Event}
use Rattle.history_lock.specs.declared.view.Known.{Known}
use Rattle.history_lock.specs.Histories.{Did, StartsWith}
use Rattle.history_lock.proofs.Deeds.{did_none}
use Rattle.worker_crew.specs.declared.gave_up.GaveUp.TheVariants.{Worn}
use Rattle.worker_crew.specs.declared.rule.Account.{Account}
use Rattle.worker_crew.specs.Accounts.{TakesOne, Took, fresh, joined}
use Rattle.worker_crew.specs.Tasks.{AllMade, OneWork, Task, Toiled, Worked, calls_in, items_in, told_by}
use Rattle.worker_crew.specs.Crews.{TakesIn}
use Rattle.worker_crew.proofs.Growing.{Grew, grew_joined, grew_none, grew_then}

and_assoc : (a b c : Worked) → result_and (result_and a b) c ≡ result_and a (result_and b c)
and_assoc (Ok x) b c = refl
and_assoc (Err e) b c = refl

and_ok : (a : Worked) → result_and a (Ok tt) ≡ a
and_ok (Ok x) = refl
and_ok (Err e) = refl

module _ {M E R T : Type 0} where
  calls_append : (xs ys : List (Task M E R T)) → calls_in (xs ++ ys) ≡ calls_in xs ++ calls_in ys
  calls_append [] ys = refl
  calls_append (x ∷ xs) ys = ap (λ y. x.calls ++ y) (calls_append xs ys) ∙ sym (append_assoc x.calls (calls_in xs) (calls_in ys))

  items_append : (xs ys : List (Task M E R T)) → items_in (xs ++ ys) ≡ items_in xs ++ items_in ys
  items_append [] ys = refl
  items_append (x ∷ xs) ys = ap (λ y. x.item ∷ y) (items_append xs ys)

  told_append : (xs ys : List (Task M E R T)) → told_by (xs ++ ys) ≡ result_and (told_by xs) (told_by ys)
  told_append [] ys = refl
  told_append (x ∷ xs) ys = ap (λ y. result_and x.worked y) (told_append xs ys) ∙ sym (and_assoc x.worked (told_by xs) (told_by ys))

  all_made : (makes : T → Worked → List (Event M E R) → Type 0) (xs ys : List (Task M E R T)) → AllMade makes xs → AllMade makes ys → AllMade makes (xs ++ ys)
  all_made makes [] ys a b = b
  all_made makes (x ∷ xs) ys (m, a) b = (m, all_made makes xs ys a b)

module _ {M E R : Type 0} where
  grown : (u w : Known M E R) (calls : List (Event M E R)) → Did u calls w → Grew u.seen u.own calls w.seen w.own
  grown u w calls d = record { positions = d.positions; more = d.own; later = d.later; at = d.at }

  done : (u w : Known M E R) (calls : List (Event M E R)) → Grew u.seen u.own calls w.seen w.own → Did u calls w
  done u w calls d = record { positions = d.positions; own = d.more; later = d.later; at = d.at }

module _ {T : Type 0} where
  placed : (v w : Account T) (items : List T) → Took v items w → Grew v.seen v.taken items w.seen w.taken
  placed v w items d = record { positions = d.positions; more = d.taken; later = d.later; at = d.at }

  took : (v w : Account T) (items : List T) → Grew v.seen v.taken items w.seen w.taken → w.offered ≡ v.offered → Took v items w
  took v w items d offered = record { positions = d.positions; taken = d.more; offered = offered; later = d.later; at = d.at }

  took_one : (v : Account T) (item : T) (w : Account T) → TakesOne v item w → Took v (item ∷ []) w
  took_one v item w t =
      let P : Account T → Type 0 = λ y. Took v (item ∷ []) y in
      subst P (sym t.after) record { positions = t.position ∷ []; taken = refl; offered = refl; later = t.later; at = (t.there, tt) }

-- of two outcomes the first failure is at a worn hall only where the greater number tells so
worn_joined : (o o' : Worked) (m n k : ℕ) → k ≡ max m n → (o ≡ Err Worn → 2 ^ 62 ≤ m) → (o' ≡ Err Worn → 2 ^ 62 ≤ n) → result_and o o' ≡ Err Worn → 2 ^ 62 ≤ k
worn_joined (Ok x) o' m n k is a b e = let h = b e in omega arith
worn_joined (Err c) o' m n k is a b e = let h = a e in omega arith

module _ {M E R T : Type 0} (makes : T → Worked → List (Event M E R) → Type 0) where
  pub toiled_none : (u : Known M E R) (v : Account T) → Toiled makes u v (Ok tt) u v
  toiled_none u v = record {
    tasks = [];
    did = did_none u;
    took = took v v [] (grew_none v.seen v.taken) refl;
    made = tt;
    told = refl;
    worn = λ e. absurd (cc e);
  }

  pub toiled_one : (u x : Known M E R) (v w : Account T) (item : T) (worked : Worked) → TakesOne v item w → OneWork makes item worked u x → (worked ≡ Err Worn → 2 ^ 62 ≤ x.number) → Toiled makes u v worked x w
  toiled_one u x v w item worked t o worn =
      let P : List (Event M E R) → Type 0 = λ y. Did u y x in
      record {
        tasks = record { item = item; worked = worked; calls = o.calls } ∷ [];
        did = subst P (sym (append-nil o.calls)) o.did;
        took = took_one v item w t;
        made = (o.made, tt);
        told = sym (and_ok worked);
        worn = worn;
      }

  pub toiled_then : (u x y : Known M E R) (v w z : Account T) (o : Worked) → Toiled makes u v (Ok tt) x w → Toiled makes x w o y z → Toiled makes u v o y z
  toiled_then u x y v w z o a b =
      let P : List (Event M E R) → Type 0 = λ c. Did u c y in
      let Q : List T → Type 0 = λ i. Took v i z in
      record {
        tasks = a.tasks ++ b.tasks;
        did = subst P (sym (calls_append a.tasks b.tasks)) (done u y (calls_in a.tasks ++ calls_in b.tasks) (grew_then u.seen u.own (calls_in a.tasks) x.seen x.own (calls_in b.tasks) y.seen y.own (grown u x (calls_in a.tasks) a.did) (grown x y (calls_in b.tasks) b.did)));
        took = subst Q (sym (items_append a.tasks b.tasks)) (took v z (items_in a.tasks ++ items_in b.tasks) (grew_then v.seen v.taken (items_in a.tasks) w.seen w.taken (items_in b.tasks) z.seen z.taken (placed v w (items_in a.tasks) a.took) (placed w z (items_in b.tasks) b.took)) (b.took.offered ∙ a.took.offered));
        made = all_made makes a.tasks b.tasks a.made b.made;
        told = sym (told_append a.tasks b.tasks ∙ ap (λ r. result_and r (told_by b.tasks)) (sym a.told) ∙ sym b.told);
        worn = b.worn;
      }

  -- a pass of each took in another, that began with nothing
  pub toiled_joined : (allows : List (Event M E R) → E → Type 0) (u x y s e : Known M E R) (v w z t f : Account T) (o o' : Worked) → s.own ≡ [] → t ≡ fresh 1 → Toiled makes u v o x w → Toiled makes s t o' e f → TakesIn allows x e y
      → z ≡ joined w f → StartsWith z.seen w.seen × StartsWith z.seen f.seen → Toiled makes u v (result_and o o') y z
  toiled_joined allows u x y s e v w z t f o o' none new a b k both begins =
      let P : List (Event M E R) → Type 0 = λ c. Did u c y in
      let Q : List T → Type 0 = λ i. Took v i z in
      let offered : z.offered ≡ v.offered =
      ap (λ (q : Account T). q.offered) both ∙ ap (λ q. w.offered ++ q) (b.took.offered ∙ ap (λ (q : Account T). q.offered) new) ∙ append-nil w.offered ∙ a.took.offered in
      record {
        tasks = a.tasks ++ b.tasks;
        did = subst P (sym (calls_append a.tasks b.tasks)) (done u y (calls_in a.tasks ++ calls_in b.tasks)
            (grew_joined u.seen u.own (calls_in a.tasks) x.seen x.own s.seen s.own (calls_in b.tasks) e.seen e.own y.seen y.own none (grown u x (calls_in a.tasks) a.did) (grown s e (calls_in b.tasks) b.did) k.begins k.begins_too k.own));
        took = subst Q (sym (items_append a.tasks b.tasks)) (took v z (items_in a.tasks ++ items_in b.tasks)
            (grew_joined v.seen v.taken (items_in a.tasks) w.seen w.taken t.seen t.taken (items_in b.tasks) f.seen f.taken z.seen z.taken (ap (λ (q : Account T). q.taken) new) (placed v w (items_in a.tasks) a.took) (placed t f (items_in b.tasks) b.took) begins.0 begins.1 (ap (λ (q : Account T). q.taken) both))
            offered);
        made = all_made makes a.tasks b.tasks a.made b.made;
        told = ap (λ r. result_and r o') a.told ∙ ap (λ r. result_and (told_by a.tasks) r) b.told ∙ sym (told_append a.tasks b.tasks);
        worn = worn_joined o o' x.number e.number y.number k.number a.worn b.worn;
      }

  -- nothing was done
  pub toiled_still : (u x y : Known M E R) (v w z : Account T) (o : Worked) → Toiled makes u v o x w → y ≡ x → z ≡ w → Toiled makes u v o y z
  toiled_still u x y v w z o a known account =
      let P : Known M E R → Account T → Type 0 = λ k q. Toiled makes u v o k q in
      let Q : Known M E R → Type 0 = λ k. P k z in
      let S : Account T → Type 0 = λ q. P x q in
      subst Q (sym known) (subst S (sym account) a)
