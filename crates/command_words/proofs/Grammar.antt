-- Words give a command exactly where they are written for it.
use Rattle.std.proofs.Common.{◌≡◌, ℕ, suc, ◌+◌, true, false, cond, Bool, List, [], ◌∷◌, ◌++◌, take, drop, length, Option, Some, None, refl, sym, ap, ◌∙◌, subst, ⊎_elim, arith}
use Rattle.std.specs.Prelude.{◌==◌, ◌||◌, is_some, codes}
use Rattle.std.specs.Option.{option_and_then, option_map}
use Rattle.std.specs.Str.{bytes_eq}
use Rattle.std.proofs.lemmas.Bool.{cases_Bool}
use Rattle.std.proofs.lemmas.Bool.Decides.{nat_tests}
use Rattle.std.proofs.lemmas.Slice.Eq.{bytes_eq-Decides}
use Rattle.std.proofs.Math.Seq.{take-append_seam, drop-append-add}
use Rattle.maple_base.specs.declared.decision.Settings.{Settings}
use Rattle.maple_text.specs.Parts.{len_to}
use Rattle.command_words.specs.declared.words.Command.{Command}
use Rattle.command_words.specs.declared.words.Command.TheVariants.{Sim, Check, Gen, Serve}
use Rattle.command_words.specs.declared.options.Setting.{Setting}
use Rattle.command_words.specs.declared.options.Setting.TheVariants.{Budget, Capacity, Levels, Workers, Listen, Control}
use Rattle.command_words.specs.declared.options.Chosen.{Chosen}
use Rattle.command_words.specs.Options.{all_settings, name_of, none_chosen, number_in, option_first, option_last, options, setting_among, setting_given, setting_named, settings_of, with_setting}
use Rattle.command_words.specs.Words.{check_alone, command_of, gen_of, settings_in, with_ports, without_ports}
use Rattle.command_words.specs.Grammar.{Choose, EachIsRead, IsWritten, NoOtherIsRead, Written, chosen_by, option_words, words_of}

-- ---- an option in one word

apart : (name value : List ℕ) → (length name == length (name ++ (61 ∷ value))) ≡ false
apart [] value = grind (arith, nat_tests)
apart (b ∷ bs) value = let h = apart bs value in grind (arith, nat_tests)

given_at : (name value : List ℕ) (s : Setting) → len_to 61 (name ++ (61 ∷ value)) ≡ length name → setting_named name ≡ Some s
    → setting_given (name ++ (61 ∷ value)) ≡ Some (s, value)
given_at name value s at named =
    let word = name ++ (61 ∷ value) in
    ap (λ n. cond (n == length word) None (option_map (λ t. (t, drop (n + 1) word)) (setting_named (take n word)))) at
    ∙ ap (λ t. cond t None (option_map (λ t. (t, drop (length name + 1) word)) (setting_named (take (length name) word)))) (apart name value)
    ∙ ap (λ w. option_map (λ t. (t, drop (length name + 1) word)) (setting_named w)) (take-append_seam name (61 ∷ value))
    ∙ ap (λ o. option_map (λ t. (t, drop (length name + 1) word)) o) named
    ∙ ap (λ v. Some (s, v)) (drop-append-add name (61 ∷ value) 1)

given_back : (s : Setting) (value : List ℕ) → setting_given (name_of s ++ (61 ∷ value)) ≡ Some (s, value)
given_back Budget value = given_at (name_of Budget) value Budget refl refl
given_back Capacity value = given_at (name_of Capacity) value Capacity refl refl
given_back Levels value = given_at (name_of Levels) value Levels refl refl
given_back Workers value = given_at (name_of Workers) value Workers refl refl
given_back Listen value = given_at (name_of Listen) value Listen refl refl
given_back Control value = given_at (name_of Control) value Control refl refl

parted_on : (b : ℕ) (bs : List ℕ) (m k : ℕ) → k ≡ suc m → bs ≡ take m bs ++ (61 ∷ drop (m + 1) bs)
    → (b ∷ bs) ≡ take k (b ∷ bs) ++ (61 ∷ drop (k + 1) (b ∷ bs))
parted_on b bs m k e h =
    let next : suc (m + 1) ≡ suc m + 1 = omega arith in
    ap (λ l. b ∷ l) h ∙ ap (λ j. b ∷ (take m bs ++ (61 ∷ drop j (b ∷ bs)))) next ∙ ap (λ j. take j (b ∷ bs) ++ (61 ∷ drop (j + 1) (b ∷ bs))) (sym e)

parted : (w : List ℕ) → (len_to 61 w == length w) ≡ false → w ≡ take (len_to 61 w) w ++ (61 ∷ drop (len_to 61 w + 1) w)
parted [] e = absurd (cc)
parted (b ∷ bs) e =
    ⊎_elim
    (λ t.
    let is : b ≡ 61 = grind (arith, nat_tests) in
    subst (λ k. (b ∷ bs) ≡ take k (b ∷ bs) ++ (61 ∷ drop (k + 1) (b ∷ bs))) (sym (ap (λ v. cond v 0 (1 + len_to 61 bs)) t)) (ap (λ n. n ∷ bs) is))
    (λ f.
    let up : 1 + len_to 61 bs ≡ suc (len_to 61 bs) = omega arith in
    let at : len_to 61 (b ∷ bs) ≡ suc (len_to 61 bs) = ap (λ v. cond v 0 (1 + len_to 61 bs)) f ∙ up in
    let rest : (len_to 61 bs == length bs) ≡ false = (let h = subst (λ k. (k == length (b ∷ bs)) ≡ false) at e in grind (arith, nat_tests)) in
    parted_on b bs (len_to 61 bs) (len_to 61 (b ∷ bs)) at (parted bs rest))
    (cases_Bool (b == 61))

named_is : (ss : List Setting) (w : List ℕ) (s : Setting) → setting_among ss w ≡ Some s → w ≡ name_of s
named_is [] w s e = absurd (cc e)
named_is (t ∷ ts) w s e =
    ⊎_elim
    (λ h.
    let q : t ≡ s = cc (e, ap (λ v. cond v (Some t) (setting_among ts w)) h) in
    sym ((bytes_eq-Decides (name_of t) w).0 h) ∙ ap name_of q)
    (λ h. named_is ts w s (sym (ap (λ v. cond v (Some t) (setting_among ts w)) h) ∙ e))
    (cases_Bool (bytes_eq (name_of t) w))

pair_is : (t s : Setting) (rest value : List ℕ) → ◌≡◌ {A = Option (Setting × List ℕ)} (Some (t, rest)) (Some (s, value)) → (t ≡ s) × (rest ≡ value)
pair_is t s rest value e =
    let both : ◌≡◌ {A = Setting × List ℕ} (t, rest) (s, value) = cc e in
    (ap (λ (p : Setting × List ℕ). p.0) both, ap (λ (p : Setting × List ℕ). p.1) both)

given_is : (w : List ℕ) (s : Setting) (value : List ℕ) → setting_given w ≡ Some (s, value) → w ≡ name_of s ++ (61 ∷ value)
given_is w s value e =
    ⊎_elim
    (λ t. absurd (let no = sym (ap (λ v. cond v None found) t) ∙ e in cc))
    (λ f. go (setting_named (take (len_to 61 w) w)) refl f (sym (ap (λ v. cond v None found) f) ∙ e))
    (cases_Bool (len_to 61 w == length w))
  where
    rest : List ℕ
    rest = drop (len_to 61 w + 1) w

    found : Option (Setting × List ℕ)
    found = option_map {U = Setting × List ℕ} (λ t. (t, rest)) (setting_named (take (len_to 61 w) w))

    go : (o : Option Setting) → setting_named (take (len_to 61 w) w) ≡ o → (len_to 61 w == length w) ≡ false → option_map {U = Setting × List ℕ} (λ t. (t, rest)) o ≡ Some (s, value)
        → w ≡ name_of s ++ (61 ∷ value)
    go None n f e = absurd (cc e)
    go (Some t) n f e =
        let both = pair_is t s rest value e in
        parted w f ∙ ap (λ name. name ++ (61 ∷ rest)) (named_is all_settings (take (len_to 61 w) w) t n)
        ∙ ap (λ x. name_of x ++ (61 ∷ rest)) both.0 ∙ ap (λ v. name_of s ++ (61 ∷ v)) both.1

-- ---- options are read as they are written

and_some : (o : Option Chosen) → o ≡ option_and_then (options []) o
and_some None = refl
and_some (Some c) = refl

not_given : (s : Setting) → setting_given (name_of s) ≡ None
not_given Budget = refl
not_given Capacity = refl
not_given Levels = refl
not_given Workers = refl
not_given Listen = refl
not_given Control = refl

named_back : (s : Setting) → setting_named (name_of s) ≡ Some s
named_back Budget = refl
named_back Capacity = refl
named_back Levels = refl
named_back Workers = refl
named_back Listen = refl
named_back Control = refl

one_first : (w : List ℕ) (s : Setting) (value : List ℕ) (ws : List (List ℕ)) (c : Chosen) → setting_given w ≡ Some (s, value)
    → options (w ∷ ws) c ≡ option_and_then (options ws) (with_setting s value c)
one_first w s value [] c g = ap (λ o. option_last o c) g ∙ and_some (with_setting s value c)
one_first w s value (v ∷ ws) c g = ap (λ o. option_first o (setting_named w) v c (options (v ∷ ws)) (options ws)) g

first_is : (joined : Bool) (s : Setting) (value : List ℕ) (ws : List (List ℕ)) (c : Chosen)
    → options (option_words joined (name_of s) value ++ ws) c ≡ option_and_then (options ws) (with_setting s value c)
first_is true s value ws c = one_first (name_of s ++ (61 ∷ value)) s value ws c (given_back s value)
first_is false s value ws c =
    ap (λ o. option_first o (setting_named (name_of s)) value c (options (value ∷ ws)) (options ws)) (not_given s)
    ∙ ap (λ n. option_first None n value c (options (value ∷ ws)) (options ws)) (named_back s)

same_next : (f g : Chosen → Option Chosen) → ((c : Chosen) → f c ≡ g c) → (o : Option Chosen) → option_and_then f o ≡ option_and_then g o
same_next f g h None = refl
same_next f g h (Some c) = h c

options_read : (os : List Written) (c : Chosen) → options (words_of os) c ≡ chosen_by os c
options_read [] c = refl
options_read (o ∷ os) c =
    first_is o.joined o.setting o.value (words_of os) c
    ∙ same_next (options (words_of os)) (chosen_by os) (λ d. options_read os d) (with_setting o.setting o.value c)

-- ---- and no others

abbrev AreWritten : List (List ℕ) → Chosen → Chosen → Type 0
AreWritten ws c d = (os : List Written) × (ws ≡ words_of os) × (chosen_by os c ≡ Some d)

ahead : (o : Written) (ws : List (List ℕ)) (c d : Chosen) (x : Option Chosen) → with_setting o.setting o.value c ≡ x
    → ((y : Chosen) → options ws y ≡ Some d → AreWritten ws y d) → option_and_then (options ws) x ≡ Some d
    → AreWritten (option_words o.joined (name_of o.setting) o.value ++ ws) c d
ahead o ws c d None is f e = absurd (cc e)
ahead o ws c d (Some y) is f e =
    let h = f y e in
    (o ∷ h.0, ap (λ l. option_words o.joined (name_of o.setting) o.value ++ l) h.1, ap (λ x. option_and_then (chosen_by h.0) x) is ∙ h.2)

last_written : (w : List ℕ) (c d : Chosen) (o : Option (Setting × List ℕ)) → setting_given w ≡ o → option_last o c ≡ Some d → AreWritten (w ∷ []) c d
last_written w c d None g e = absurd (cc e)
last_written w c d (Some (s, value)) g e =
    subst (λ t. AreWritten (t ∷ []) c d) (sym (given_is w s value g))
    (ahead (record { setting = s; value = value; joined = true }) [] c d (with_setting s value c) refl (λ y q. ([], refl, q)) (sym (and_some (with_setting s value c)) ∙ e))

first_written : (w v : List ℕ) (ws : List (List ℕ)) (c d : Chosen) (o : Option (Setting × List ℕ)) (n : Option Setting) → setting_given w ≡ o → setting_named w ≡ n
    → ((y : Chosen) → options (v ∷ ws) y ≡ Some d → AreWritten (v ∷ ws) y d) → ((y : Chosen) → options ws y ≡ Some d → AreWritten ws y d)
    → option_first o n v c (options (v ∷ ws)) (options ws) ≡ Some d → AreWritten (w ∷ v ∷ ws) c d
first_written w v ws c d (Some (s, value)) n g m one two e =
    subst (λ t. AreWritten (t ∷ v ∷ ws) c d) (sym (given_is w s value g))
    (ahead (record { setting = s; value = value; joined = true }) (v ∷ ws) c d (with_setting s value c) refl one e)
first_written w v ws c d None (Some s) g m one two e =
    subst (λ t. AreWritten (t ∷ v ∷ ws) c d) (sym (named_is all_settings w s m))
    (ahead (record { setting = s; value = v; joined = false }) ws c d (with_setting s v c) refl two e)
first_written w v ws c d None None g m one two e = absurd (cc e)

are_written : (ws : List (List ℕ)) (c d : Chosen) → options ws c ≡ Some d → AreWritten ws c d
are_written [] c d e = ([], refl, e)
are_written (w ∷ []) c d e = last_written w c d (setting_given w) refl e
are_written (w ∷ v ∷ ws) c d e =
    first_written w v ws c d (setting_given w) (setting_named w) refl refl (λ y q. are_written (v ∷ ws) y d q) (λ y q. are_written ws y d q) e

-- ---- commands are read as they are written

module _ (os : List Written) (settings : Settings) where
  settings_read : Choose os None None settings → settings_in (words_of os) ≡ Some settings
  settings_read (c, is, l, p, s) =
      ap (option_and_then without_ports) (options_read os none_chosen ∙ is)
      ∙ ap (λ o. cond (is_some o || is_some c.control) None (Some (settings_of c))) l
      ∙ ap (λ o. cond (is_some o) None (Some (settings_of c))) p ∙ ap Some s

  serve_read : (listen control : ℕ) → Choose os (Some listen) (Some control) settings
      → option_and_then with_ports (options (words_of os) none_chosen) ≡ Some (Serve listen control settings)
  serve_read listen control (c, is, l, p, s) =
      ap (option_and_then with_ports) (options_read os none_chosen ∙ is)
      ∙ ap (λ o. option_and_then (λ a. option_map (λ b. Serve a b (settings_of c)) c.control) o) l
      ∙ ap (λ o. option_map (λ b. Serve listen b (settings_of c)) o) p ∙ ap (λ x. Some (Serve listen control x)) s

pub each_is_read : EachIsRead
each_is_read (Sim settings) words (os, is, choose) = ap command_of is ∙ ap (option_map Sim) (settings_read os settings choose)
each_is_read Check words is = ap command_of is
each_is_read (Gen number settings) words (os, n, is, spelled, choose) =
    ap command_of is ∙ ap (option_and_then (λ a. option_map (Gen a) (settings_in (words_of os)))) spelled
    ∙ ap (option_map (Gen number)) (settings_read os settings choose)
each_is_read (Serve listen control settings) words (os, is, choose) = ap command_of is ∙ serve_read os settings listen control choose

-- ---- and no others

settings_written : (ws : List (List ℕ)) (settings : Settings) → settings_in ws ≡ Some settings → (os : List Written) × (ws ≡ words_of os) × Choose os None None settings
settings_written ws settings e = go (options ws none_chosen) refl e
  where
    none : (c : Chosen) (l p : Option ℕ) → c.listen ≡ l → c.control ≡ p → cond (is_some l || is_some p) None (Some (settings_of c)) ≡ Some settings
        → (c.listen ≡ None) × (c.control ≡ None) × (settings_of c ≡ settings)
    none c None None l p e = (l, p, cc e)
    none c None (Some b) l p e = absurd (cc e)
    none c (Some a) o l p e = absurd (cc e)

    go : (o : Option Chosen) → options ws none_chosen ≡ o → option_and_then without_ports o ≡ Some settings → (os : List Written) × (ws ≡ words_of os) × Choose os None None settings
    go None is e = absurd (cc e)
    go (Some c) is e =
        let h = are_written ws none_chosen c is in
        let n = none c c.listen c.control refl refl e in
        (h.0, h.1, (c, h.2, n.0, n.1, n.2))

module _ (command : Command) where
  sim_written : (ws : List (List ℕ)) (o : Option Settings) → settings_in ws ≡ o → option_map Sim o ≡ Some command → IsWritten command (codes "sim" ∷ ws)
  sim_written ws None is e = absurd (cc e)
  sim_written ws (Some settings) is e =
      let h = settings_written ws settings is in
      let same : Sim settings ≡ command = cc e in
      subst (λ k. IsWritten k (codes "sim" ∷ ws)) same (h.0, ap (λ l. codes "sim" ∷ l) h.1, h.2)

  check_written : (ws : List (List ℕ)) → check_alone ws ≡ Some command → IsWritten command (codes "check" ∷ ws)
  check_written [] e = let same : Check ≡ command = cc e in subst (λ k. IsWritten k (codes "check" ∷ [])) same refl
  check_written (w ∷ ws) e = absurd (cc e)

  gen_written : (ws : List (List ℕ)) → gen_of ws ≡ Some command → IsWritten command (codes "gen" ∷ ws)
  gen_written [] e = absurd (cc e)
  gen_written (n ∷ ws) e = go (number_in n) (settings_in ws) refl refl e
    where
      go : (number : Option ℕ) (o : Option Settings) → number_in n ≡ number → settings_in ws ≡ o → option_and_then (λ a. option_map (Gen a) o) number ≡ Some command
          → IsWritten command (codes "gen" ∷ n ∷ ws)
      go None o p q e = absurd (cc e)
      go (Some a) None p q e = absurd (cc e)
      go (Some a) (Some settings) p q e =
          let h = settings_written ws settings q in
          let same : Gen a settings ≡ command = cc e in
          subst (λ k. IsWritten k (codes "gen" ∷ n ∷ ws)) same (h.0, n, ap (λ l. codes "gen" ∷ n ∷ l) h.1, p, h.2)

  serve_written : (ws : List (List ℕ)) → option_and_then with_ports (options ws none_chosen) ≡ Some command → IsWritten command (codes "serve" ∷ ws)
  serve_written ws e = go (options ws none_chosen) refl e
    where
      both : (c : Chosen) → options ws none_chosen ≡ Some c → (l p : Option ℕ) → c.listen ≡ l → c.control ≡ p
          → option_and_then (λ a. option_map (λ b. Serve a b (settings_of c)) p) l ≡ Some command → IsWritten command (codes "serve" ∷ ws)
      both c is None p i j e = absurd (cc e)
      both c is (Some a) None i j e = absurd (cc e)
      both c is (Some a) (Some b) i j e =
          let h = are_written ws none_chosen c is in
          let same : Serve a b (settings_of c) ≡ command = cc e in
          subst (λ k. IsWritten k (codes "serve" ∷ ws)) same (h.0, ap (λ l. codes "serve" ∷ l) h.1, (c, h.2, i, j, refl))

      go : (o : Option Chosen) → options ws none_chosen ≡ o → option_and_then with_ports o ≡ Some command → IsWritten command (codes "serve" ∷ ws)
      go None is e = absurd (cc e)
      go (Some c) is e = both c is c.listen c.control refl refl e

  by_name : (name w : List ℕ) (ws : List (List ℕ)) (one other : Option Command) → (one ≡ Some command → IsWritten command (name ∷ ws))
      → (other ≡ Some command → IsWritten command (w ∷ ws)) → cond (bytes_eq w name) one other ≡ Some command → IsWritten command (w ∷ ws)
  by_name name w ws one other f g e =
      ⊎_elim
      (λ t. subst (λ l. IsWritten command (l ∷ ws)) (sym ((bytes_eq-Decides w name).0 t)) (f (sym (ap (λ v. cond v one other) t) ∙ e)))
      (λ t. g (sym (ap (λ v. cond v one other) t) ∙ e))
      (cases_Bool (bytes_eq w name))

pub no_other_is_read : NoOtherIsRead
no_other_is_read command [] e = absurd (cc e)
no_other_is_read command (w ∷ ws) e =
    by_name command (codes "sim") w ws (option_map Sim (settings_in ws)) _ (λ e. sim_written command ws (settings_in ws) refl e)
    (λ e.
    by_name command (codes "check") w ws (check_alone ws) _ (λ e. check_written command ws e)
    (λ e.
    by_name command (codes "gen") w ws (gen_of ws) _ (λ e. gen_written command ws e)
    (λ e. by_name command (codes "serve") w ws (option_and_then with_ports (options ws none_chosen)) None (λ e. serve_written command ws e) (λ e. absurd (cc e)) e) e) e) e
