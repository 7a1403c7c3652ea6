-- What is written reads back as the same event in normal form, and an event that is read has one spelling.
use Rattle.std.specs.Prelude.{ℕ, zero, suc, ◌+◌, ◌^◌, ◌≤◌, ◌<◌, min, refl, List, [], ◌∷◌, ◌++◌, Option, Some, None, Result, Ok, Err, Bool, true, false, cond, length, get_or, take, drop, eqb, ltb}
use Rattle.std.proofs.Math.Path.{◌≡◌}
use Rattle.std.proofs.Common.{sym, ap, subst, ◌∙◌, append_assoc, length-append, take-append-drop, length-take-le, le-ltb, ltb-false, leb-true, le-leb, eqb-true}
use native.Mathlib.Omega.{arith}
use Rattle.std.proofs.lemmas.List.Edits.{sets, sets-eq}
use Rattle.std.proofs.Math.Seq.{length-sets}
use Rattle.script.specs.declared.AccessKind.TheVariants as kind
use Rattle.script.specs.declared.Event.{Event}
use Rattle.script.specs.declared.Event.TheVariants.{Read, Write, Line, Nmi, Tick, Fault, Svc, Special, Entry, Return, Access, Lost, Skip}
use Rattle.refusals.specs.declared.Refusal.{Refusal}
use Rattle.refusals.specs.declared.Refusal.TheVariants as refusal
use Rattle.script.specs.Event.{access_number, access_kind, kind_of, arguments_of, arity, normal, Normal}
use Rattle.numbers.specs.Number.{number_bytes, number_at}
use Rattle.numbers.specs.NumberLaws.{groups_some, Bytes, Spells, spells_append, spells_nothing, spells_inside, number_written, number_read}
use Rattle.script.specs.Reading.{Numbers, numbers, broken, before, then, numbers_at, event_of, with_arguments, with_kind, read_event}
use Rattle.script.specs.Writing.{numbers_bytes, event_bytes, fits, write_event, bytes_after}

-- numbers that a script can hold
unfoldable pub Words : List ℕ → Type 0
Words [] = Unit {0}
Words (n ∷ ns) = (n < 2 ^ 32) × Words ns

-- every argument below 2^32, as in each value of the enum
abbrev pub InRange : Event → Type 0
InRange e = Words (arguments_of e)

-- ---- what is written reads back

numbers_written : (ns pre post : List ℕ) → Words ns → numbers_at (pre ++ (numbers_bytes ns ++ post)) (length pre) (length ns) ≡ numbers ns (length pre + length (numbers_bytes ns))
unfolding numbers_at then before numbers_bytes Words
numbers_written [] pre post w = let e : length pre + 0 ≡ length pre = omega arith in simp e
numbers_written (n ∷ ns) pre post w =
    let all = pre ++ (number_bytes n ++ (numbers_bytes ns ++ post)) in
    let same : pre ++ ((number_bytes n ++ numbers_bytes ns) ++ post) ≡ all = simp append_assoc in
    let one = number_written n pre (numbers_bytes ns ++ post) w.0 in
    let ih : numbers_at all (length pre + length (number_bytes n)) (length ns) ≡ numbers ns (length pre + length (number_bytes n) + length (numbers_bytes ns)) =
    simp (append_assoc, length-append) at (numbers_written ns (pre ++ number_bytes n) post w.1) in
    let sum : length pre + length (number_bytes n) + length (numbers_bytes ns) ≡ length pre + length (number_bytes n ++ numbers_bytes ns) = simp length-append (omega arith) in
    subst (λ (b : List ℕ). numbers_at b (length pre) (suc (length ns)) ≡ numbers (n ∷ ns) (length pre + length (number_bytes n ++ numbers_bytes ns))) (sym same)
    (ap (λ (r : Option (ℕ × ℕ)). then r (λ next. numbers_at all next (length ns))) one ∙ ap (before n) (ih ∙ ap (numbers ns) sum))

-- an event as numbers: its kind is one, has as many arguments as the event, and with them makes the event again
record Numbered (e : Event) (next : ℕ) : Type 0 where
  word : kind_of e < 2 ^ 32
  count : arity (kind_of e) ≡ length (arguments_of e)
  again : with_arguments (kind_of e) (numbers (arguments_of e) next) ≡ Ok (normal e, next)

numbered : (e : Event) (next : ℕ) → Numbered e next
unfolding arity with_arguments event_of kind_of arguments_of normal
numbered (Read width address) next = record { word = omega arith; count = refl; again = refl }
numbered (Write width address value) next = record { word = omega arith; count = refl; again = refl }
numbered (Line line level) next = record { word = omega arith; count = refl; again = refl }
numbered Nmi next = record { word = omega arith; count = refl; again = refl }
numbered Tick next = record { word = omega arith; count = refl; again = refl }
numbered (Fault bit address) next = record { word = omega arith; count = refl; again = refl }
numbered Svc next = record { word = omega arith; count = refl; again = refl }
numbered (Special which value) next = record { word = omega arith; count = refl; again = refl }
numbered Entry next = record { word = omega arith; count = refl; again = refl }
numbered (Return value) next = record { word = omega arith; count = refl; again = refl }
numbered (Access k width address) next = record { word = omega arith; count = refl; again = refl }
numbered (Lost line) next = record { word = omega arith; count = refl; again = refl }
numbered (Skip ticks) next = record { word = omega arith; count = refl; again = refl }

pub event_written : (e : Event) (pre post : List ℕ) → InRange e → length (pre ++ (event_bytes e ++ post)) ≤ 65536 → read_event (pre ++ (event_bytes e ++ post)) (length pre) ≡ Ok (normal e, length pre + length (event_bytes e))
unfolding read_event with_kind event_bytes numbers_bytes
event_written e pre post w h =
    let k = number_bytes (kind_of e) in
    let args = numbers_bytes (arguments_of e) in
    let m = numbered e (length pre + (length k + length args)) in
    let kind = number_written (kind_of e) pre (args ++ post) m.word in
    let rest = simp (append_assoc, length-append) at (numbers_written (arguments_of e) (pre ++ k) post w) in
    let sum : length pre + length k + length args ≡ length pre + (length k + length args) = omega arith in
    let long = le-ltb 65536 (length (pre ++ ((k ++ args) ++ post))) h in
    simp long (simp (append_assoc, length-append, kind, m.count, rest, m.again, sum))

-- ---- what is read has one spelling

record NumbersRead (bytes : List ℕ) (at count : ℕ) (ns : List ℕ) (next : ℕ) : Type 0 where
  spelled : Spells bytes at (numbers_bytes ns) next
  words : Words ns
  many : length ns ≡ count

numbers_read : (count : ℕ) (bytes : List ℕ) (at : ℕ) (ns : List ℕ) (next : ℕ) → Bytes bytes → numbers_at bytes at count ≡ numbers ns next → NumbersRead bytes at count ns next
unfolding numbers_at then before numbers_bytes Words
numbers_read zero bytes at ns next small e =
    let a : [] ≡ ns = cc in
    let b : at ≡ next = cc in
    rw (← a, ← b) (record { spelled = spells_nothing bytes at; words = tt; many = refl })
numbers_read (suc count) bytes at ns next small e =
    first (number_at bytes at) refl (λ mid ms. numbers_read count bytes mid ms next small)
  where
    rest : (n mid : ℕ) → number_at bytes at ≡ Some (n, mid) → (x : Numbers) → numbers_at bytes mid count ≡ x → before n x ≡ numbers ns next → ((ms : List ℕ) → numbers_at bytes mid count ≡ numbers ms next → NumbersRead bytes mid count ms next) → NumbersRead bytes at (suc count) ns next
    rest n mid p broken q d ih = let z : ◌≡◌ {A = ℕ} 0 1 = cc in let x : ⊥ = omega arith in absurd x
    rest n mid p (numbers ms end) q d ih =
        let a : n ∷ ms ≡ ns = cc in
        let b : end ≡ next = cc in
        let r = ih ms (q ∙ ap (numbers ms) b) in
        let o = number_read bytes at n mid small p in
        rw (← a)
        (record {
          spelled = spells_append bytes at mid next (number_bytes n) (numbers_bytes ms) o.spelled r.spelled;
          words = (o.small, r.words);
          many = ap suc r.many;
        })

    first : (r : Option (ℕ × ℕ)) → number_at bytes at ≡ r → ((mid : ℕ) (ms : List ℕ) → numbers_at bytes mid count ≡ numbers ms next → NumbersRead bytes mid count ms next) → NumbersRead bytes at (suc count) ns next
    first None p ih = let d = simp p at e in let z : ◌≡◌ {A = ℕ} 0 1 = cc in let x : ⊥ = omega arith in absurd x
    first (Some (n, mid)) p ih = rest n mid p (numbers_at bytes mid count) refl (simp p at e) (ih mid)

access_number_lem : (n : ℕ) → access_number (access_kind n) ≡ n
unfolding access_number access_kind
access_number_lem n = cases (eqb n 0) refl (eqb n 1) refl (eqb n 2) refl
  where
    cases : (a : Bool) → eqb n 0 ≡ a → (b : Bool) → eqb n 1 ≡ b → (c : Bool) → eqb n 2 ≡ c → access_number (cond a kind.Read (cond b kind.Write (cond c kind.Fetch (kind.Other n)))) ≡ n
    cases true p b q c r = sym (eqb-true n 0 p)
    cases false p true q c r = sym (eqb-true n 1 q)
    cases false p false q true r = sym (eqb-true n 2 r)
    cases false p false q false r = refl

-- what `event_of` makes
record Made (number a b c next : ℕ) (e : Event) (end : ℕ) : Type 0 where
  same : kind_of e ∷ arguments_of e ≡ number ∷ take (arity number) (a ∷ (b ∷ (c ∷ [])))
  normal : Normal e
  ends : end ≡ next

-- an event that is found, and the offset after it, are one event and one offset
pub found_same : (e f : Event) (n m : ℕ) → ◌≡◌ {A = Result (Event × ℕ) Refusal} (Ok (e, n)) (Ok (f, m)) → (e ≡ f) × (n ≡ m)
found_same e f n m d = let p : ◌≡◌ {A = Event × ℕ} (e, n) (f, m) = cc in (ap (λ (x : Event × ℕ). x.0) p, ap (λ (x : Event × ℕ). x.1) p)

module _ (number a b c next : ℕ) where
  abbrev Makes : Result (Event × ℕ) Refusal → Type 0
  Makes r = (e : Event) (end : ℕ) → r ≡ Ok (e, end) → Made number a b c next e end

  makes : (e : Event) → kind_of e ∷ arguments_of e ≡ number ∷ take (arity number) (a ∷ (b ∷ (c ∷ []))) → Normal e → Makes (Ok (e, next))
  makes e s q f end r =
      let g = found_same e f next end r in
      rw (← g.0) (record { same = s; normal = q; ends = sym g.1 })

  step : (k : ℕ) (x y : Result (Event × ℕ) Refusal) → (number ≡ k → Makes x) → Makes y → Makes (cond (eqb number k) x y)
  step k x y f g = cases (eqb number k) refl
    where
      cases : (t : Bool) → eqb number k ≡ t → Makes (cond t x y)
      cases true q = f (eqb-true number k q)
      cases false q = g

  made : Makes (event_of number a b c next)
  unfolding event_of kind_of arguments_of arity normal
  made =
      step 1 (Ok (Read a b, next)) _ (λ q. makes (Read a b) (simp q) refl)
      (step 2 (Ok (Write a b c, next)) _ (λ q. makes (Write a b c) (simp q) refl)
      (step 3 (Ok (Line a b, next)) _ (λ q. makes (Line a b) (simp q) refl)
      (step 4 (Ok (Nmi, next)) _ (λ q. makes Nmi (simp q) refl)
      (step 5 (Ok (Tick, next)) _ (λ q. makes Tick (simp q) refl)
      (step 6 (Ok (Fault a b, next)) _ (λ q. makes (Fault a b) (simp q) refl)
      (step 7 (Ok (Svc, next)) _ (λ q. makes Svc (simp q) refl)
      (step 8 (Ok (Special a b, next)) _ (λ q. makes (Special a b) (simp q) refl)
      (step 9 (Ok (Entry, next)) _ (λ q. makes Entry (simp q) refl)
      (step 10 (Ok (Return a, next)) _ (λ q. makes (Return a) (simp q) refl)
      (step 11 (Ok (Access (access_kind a) b c, next)) _
      (λ q. makes (Access (access_kind a) b c) (simp (q, access_number_lem)) (simp access_number_lem))
      (step 12 (Ok (Lost a, next)) _ (λ q. makes (Lost a) (simp q) refl)
      (step 13 (Ok (Skip a, next)) _ (λ q. makes (Skip a) (simp q) refl)
      unknown))))))))))))
    where
      unknown : Makes (Err refusal.Kind)
      unknown e end r = let z : ◌≡◌ {A = ℕ} 0 1 = cc in let x : ⊥ = omega arith in absurd x

pub arity_few : (kind : ℕ) → arity kind ≤ 3
unfolding arity
arity_few kind = cases (eqb kind 1) (eqb kind 2) (eqb kind 3) (eqb kind 6) (eqb kind 8) (eqb kind 10) (eqb kind 11) (eqb kind 12) (eqb kind 13)
  where
    cases : (b1 b2 b3 b6 b8 b10 b11 b12 b13 : Bool) → cond b1 2 (cond b2 3 (cond b3 2 (cond b6 2 (cond b8 2 (cond b10 1 (cond b11 3 (cond b12 1 (cond b13 1 0)))))))) ≤ 3
    cases true b2 b3 b6 b8 b10 b11 b12 b13 = omega arith
    cases false true b3 b6 b8 b10 b11 b12 b13 = omega arith
    cases false false true b6 b8 b10 b11 b12 b13 = omega arith
    cases false false false true b8 b10 b11 b12 b13 = omega arith
    cases false false false false true b10 b11 b12 b13 = omega arith
    cases false false false false false true b11 b12 b13 = omega arith
    cases false false false false false false true b12 b13 = omega arith
    cases false false false false false false false true b13 = omega arith
    cases false false false false false false false false true = omega arith
    cases false false false false false false false false false = omega arith

-- no more than three numbers are those that `with_arguments` looks at
padded : (ns : List ℕ) → length ns ≤ 3 → take (length ns) (get_or ns 0 0 ∷ (get_or ns 1 0 ∷ (get_or ns 2 0 ∷ []))) ≡ ns
padded [] h = refl
padded (a ∷ []) h = refl
padded (a ∷ (b ∷ [])) h = refl
padded (a ∷ (b ∷ (c ∷ []))) h = refl
padded (a ∷ (b ∷ (c ∷ (d ∷ ns)))) h = let z : ⊥ = omega arith in absurd z

pub record EventRead (bytes : List ℕ) (at : ℕ) (e : Event) (next : ℕ) : Type 0 where
  pub spelled : Spells bytes at (event_bytes e) next
  pub in_range : InRange e
  pub normal : Normal e
  pub forward : at < next
  pub inside : next ≤ min (length bytes) 65536

pub event_some : (e : Event) → 1 ≤ length (event_bytes e)
unfolding event_bytes numbers_bytes number_bytes
event_some e = rw length-append (omega (arith, groups_some 4 (kind_of e)))

read_parts : (bytes : List ℕ) (at number mid : ℕ) (x : Numbers) (e : Event) (next : ℕ) → Bytes bytes → length bytes ≤ 65536 → number_at bytes at ≡ Some (number, mid) → numbers_at bytes mid (arity number) ≡ x → with_arguments number x ≡ Ok (e, next) → EventRead bytes at e next
unfolding with_arguments event_bytes numbers_bytes
read_parts bytes at number mid broken e next small h p q d = let z : ◌≡◌ {A = ℕ} 0 1 = cc in let x : ⊥ = omega arith in absurd x
read_parts bytes at number mid (numbers ns end) e next small h p q d =
    let o = number_read bytes at number mid small p in
    let r = numbers_read (arity number) bytes mid ns end small q in
    let m = made number (get_or ns 0 0) (get_or ns 1 0) (get_or ns 2 0) end e next d in
    let w = r.words in
    let three : length ns ≤ 3 = omega (arith, r.many, arity_few number) in
    let same : kind_of e ∷ arguments_of e ≡ number ∷ ns = m.same ∙ rw (← r.many) (ap (λ (l : List ℕ). number ∷ l) (padded ns three)) in
    let args : arguments_of e ≡ ns = cc in
    let ends : end ≡ next = sym m.ends in
    let spelled = subst (λ (l : List ℕ). Spells bytes at (numbers_bytes l) next) (sym same) (spells_append bytes at mid next (number_bytes number) (numbers_bytes ns) o.spelled (rw ends at r.spelled)) in
    let some = event_some e in
    record {
      spelled = spelled;
      in_range = rw args w;
      normal = m.normal;
      forward = omega (arith, spelled.after);
      inside = omega (arith, spells_inside bytes at next (event_bytes e) some spelled);
    }

pub event_read : (bytes : List ℕ) (at : ℕ) (e : Event) (next : ℕ) → Bytes bytes → read_event bytes at ≡ Ok (e, next) → EventRead bytes at e next
unfolding read_event with_kind
event_read bytes at e next small d = size (ltb 65536 (length bytes)) refl
  where
    kind : length bytes ≤ 65536 → (r : Option (ℕ × ℕ)) → number_at bytes at ≡ r → with_kind bytes r ≡ Ok (e, next) → EventRead bytes at e next
    kind h None p q = let z : ◌≡◌ {A = ℕ} 0 1 = cc in let x : ⊥ = omega arith in absurd x
    kind h (Some (number, mid)) p q = read_parts bytes at number mid (numbers_at bytes mid (arity number)) e next small h p refl q

    size : (b : Bool) → ltb 65536 (length bytes) ≡ b → EventRead bytes at e next
    size true p = let f = simp p at d in let z : ◌≡◌ {A = ℕ} 0 1 = cc in let x : ⊥ = omega arith in absurd x
    size false p = kind (ltb-false 65536 (length bytes) p) (number_at bytes at) refl (simp p at d)

-- ---- the two in terms of what writing leaves

-- stored from `at` on, a part stands between what was there
stored : (out : List ℕ) (at : ℕ) (part : List ℕ) → at + length part ≤ length out → sets out at part ≡ take at out ++ (part ++ drop (at + length part) out)
stored out at part h = sets-eq part out at h ∙ append_assoc (take at out) part (drop (at + length part) out)

fits_room : (out : List ℕ) (at : ℕ) (e : Event) → fits out at e ≡ true → at + length (event_bytes e) ≤ min (length out) 65536
unfolding fits
fits_room out at e p = leb-true (at + length (event_bytes e)) (min (length out) 65536) p

-- what `write_event` leaves reads back
pub written_read : (out : List ℕ) (at : ℕ) (e : Event) (next : ℕ) → length out ≤ 65536 → InRange e → write_event out at e ≡ Ok next → read_event (bytes_after out at e) at ≡ Ok (normal e, next)
unfolding write_event bytes_after
written_read out at e next h w d = cases (fits out at e) refl
  where
    cases : (b : Bool) → fits out at e ≡ b → read_event (bytes_after out at e) at ≡ Ok (normal e, next)
    cases false p = let f = simp p at d in let z : ◌≡◌ {A = ℕ} 0 1 = cc in let x : ⊥ = omega arith in absurd x
    cases true p =
        let f = simp p at d in
        let n : at + length (event_bytes e) ≡ next = cc in
        let k = fits_room out at e p in
        let s = stored out at (event_bytes e) (omega arith) in
        let l : length (take at out) ≡ at = length-take-le at out (omega arith) in
        let r = event_written e (take at out) (drop (at + length (event_bytes e)) out) w (omega (arith, ap length s, length-sets out at (event_bytes e))) in
        simp (p, s) (rw l at r ∙ ap (λ (k : ℕ). Ok (normal e, k)) n)

-- writing an event where it was read changes nothing
pub read_written : (bytes : List ℕ) (at : ℕ) (e : Event) (next : ℕ) → Bytes bytes → read_event bytes at ≡ Ok (e, next) → (write_event bytes at e ≡ Ok next) × (bytes_after bytes at e ≡ bytes)
unfolding write_event bytes_after fits
read_written bytes at e next small d =
    let r = event_read bytes at e next small d in
    let a = r.spelled.after in
    let i = r.inside in
    let b = stored bytes at (event_bytes e) (omega arith) in
    let same = b ∙ ap (λ (l : List ℕ). take at bytes ++ l) (rw a at (sym r.spelled.here)) ∙ take-append-drop at bytes in
    simp (le-leb (at + length (event_bytes e)) (min (length bytes) 65536) (omega arith)) (ap Ok (sym a), same)
