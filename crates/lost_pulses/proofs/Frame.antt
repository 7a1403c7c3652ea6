-- No event but a level event moves a level, and none but event 12 looks at a count: by the definition of each, register by register.
use Prim.Native.Nat.{ℕ, pred, ◌%◌}
use mathlib.Core.Path.{◌≡◌, refl, sym, ap, subst, ◌∙◌}
use mathlib.Core.Logic.{◌≢◌}
use mathlib.Core.List.{List}
use mathlib.Core.Bool.{Bool, true, false, not, cond, ◌&&◌, ◌||◌}
use lib.ListN.{set}
use lib.Dec.{ltb, leb, eqb}
use lib.IntN.{ℤ}
use Rattle.bits.specs.Words.{bit}
use Rattle.bools.specs.Tests.{by_cases}
use Rattle.flag_words.specs.Flags.{on}
use Rattle.std.specs.Prelude.{Option, Some, None}
use Rattle.systick.specs.declared.Ticked.{Ticked}
use Rattle.systick.specs.Timer.{tick_of}
use Rattle.systick.specs.Skip.{skip_of}
use Rattle.script.specs.Event.{access_number, kind_of}
use Rattle.script.specs.declared.Event.{Event}
use Rattle.script.specs.declared.Event.TheVariants as event
use Rattle.rules.specs.declared.Chip.{Chip}
use Rattle.rules.specs.Chip.{is_armv6m}
use Rattle.rules.specs.declared.Bank.{Bank}
use Rattle.rules.specs.declared.Bank.TheVariants.{EnableSet, EnableClear, PendingSet, PendingClear, Active}
use Rattle.rules.specs.declared.Register.{Register}
use Rattle.rules.specs.declared.Register.TheVariants as reg
use Rattle.rules.specs.declared.SystemRegister.{SystemRegister}
use Rattle.rules.specs.declared.SystemRegister.TheVariants.{Ictype, Cpuid, Intctrl, Vtable, Apint, Sysctrl, Cfgctrl, Syshndctrl, Faultstat, Hfaultstat, Mmaddr, Faultaddr, Swtrig}
use Rattle.rules.specs.declared.System.{System}
use Rattle.rules.specs.Model.{Model, Answer, done, stack, down, top, with_active, with_nest, with_lost, with_depth, with_masks, with_timer}
use Rattle.rules.specs.Priorities.{execution, is_negative, privileged}
use Rattle.rules.specs.SkipLaws.{skip_timer}
use Rattle.rules.specs.Events.{levelled, lost_call, ticked_model, tick_call, escalates, raised, fault_exception, fault_status, fault_raised, fault_at, svc_at, lacks_special, special_at}
use Rattle.rules.specs.Nesting.{chosen, entered, enter, entry_at, link_fits, returned_masks, repended, returned, return_call}
use Rattle.rules.specs.Map.{register_of}
use Rattle.rules.specs.Reads.{bank_value, system_value, value_of, after_read}
use Rattle.rules.specs.Writes.{bank_written, system_written, word_written, byte_written}
use Rattle.rules.specs.Registers.{access_refusal, read_call, free_write, written, write_call}
use Rattle.rules.specs.Access.{fits_access, access_at, access_by}
use Rattle.rules.specs.Step.{act_of}

-- an answer with other counts in the state that it leaves
abbrev pub counting : List ℕ → Answer → Answer
counting x a = record { refusal = a.refusal; value = a.value; vector = a.vector; link = a.link; next = with_lost x a.next }

-- ---- what an event leaves of the levels

module _ (c : Chip) (m : Model) where
  -- t has the levels of m
  abbrev Level : Model → Type 0
  Level t = t.level ≡ m.level

  abbrev Leaves : Answer → Type 0
  Leaves a = Level a.next

  read_levels : (r : Register) → Level (after_read r m)
  unfolding after_read
  read_levels reg.Missing = refl
  read_levels (reg.Timer r) = refl
  read_levels (reg.Flags b n) = refl
  read_levels (reg.Priority n) = refl
  read_levels (reg.System r) = refl
  read_levels (reg.Guard r) = refl
  read_levels (reg.Constant k) = refl

  bank_levels : (b : Bank) (n v : ℕ) → Level (bank_written b n v m)
  unfolding bank_written
  bank_levels EnableSet n v = refl
  bank_levels EnableClear n v = refl
  bank_levels PendingSet n v = refl
  bank_levels PendingClear n v = refl
  bank_levels Active n v = refl

  system_levels : (r : SystemRegister) (v : ℕ) → Level (system_written c r v m)
  unfolding system_written
  system_levels Ictype v = refl
  system_levels Cpuid v = refl
  system_levels Intctrl v = refl
  system_levels Vtable v = refl
  system_levels Apint v = refl
  system_levels Sysctrl v = refl
  system_levels Cfgctrl v = refl
  system_levels Syshndctrl v = refl
  system_levels Faultstat v = refl
  system_levels Hfaultstat v = refl
  system_levels Mmaddr v = refl
  system_levels Faultaddr v = refl
  system_levels Swtrig v = refl

  word_levels : (r : Register) (v : ℕ) → Level (word_written c r v m)
  unfolding word_written
  word_levels reg.Missing v = refl
  word_levels (reg.Timer r) v = refl
  word_levels (reg.Flags b n) v = bank_levels b n v
  word_levels (reg.Priority n) v = refl
  word_levels (reg.System r) v = system_levels r v
  word_levels (reg.Guard r) v = refl
  word_levels (reg.Constant k) v = refl

  byte_levels : (r : Register) (lane v : ℕ) → Level (byte_written c r lane v m)
  unfolding byte_written
  byte_levels reg.Missing lane v = refl
  byte_levels (reg.Timer r) lane v = refl
  byte_levels (reg.Flags b n) lane v = refl
  byte_levels (reg.Priority n) lane v = refl
  byte_levels (reg.System r) lane v = refl
  byte_levels (reg.Guard r) lane v = refl
  byte_levels (reg.Constant k) lane v = refl

  raised_levels : (e : ℤ) (n : ℕ) (s : System) → Leaves (raised c e m n s)
  unfolding raised
  raised_levels e n s = by_cases Leaves (escalates e m n) (λ _. refl) (λ _. refl)

  fault_levels : (e : ℤ) (b a : ℕ) → Leaves (fault_at c e m b a)
  unfolding fault_at
  fault_levels e b a = go (fault_exception b)
    where
      go : (o : Option ℕ) → Leaves (fault_raised c e m o b a)
      go None = refl
      go (Some n) = by_cases Leaves (is_negative e) (λ _. refl) (λ _. raised_levels e n (fault_status b a m.core.system))

  enter_levels : (o : Option ℕ) → Leaves (enter m o)
  unfolding entered
  enter_levels None = refl
  enter_levels (Some n) = refl

  ticked_levels : (t : Ticked) → Level (ticked_model t m)
  ticked_levels t = by_cases Level t.pends (λ _. refl) (λ _. refl)

  pub same_levels : (e : Event) → kind_of e ≢ 3 → Leaves (act_of c m e)
  unfolding kind_of read_call write_call written lost_call tick_call svc_at special_at entry_at return_call returned repended access_at access_by
  same_levels (event.Read w a) n3 = by_cases Leaves (eqb (access_refusal c (register_of c a) (privileged m.core) w a) 0) (λ _. read_levels (register_of c a)) (λ _. refl)
  same_levels (event.Write w a v) n3 =
      by_cases Leaves (eqb (access_refusal c (register_of c a) (privileged m.core || free_write m.core w a) w a) 0)
      (λ _. by_cases Level (eqb w 4) (λ _. word_levels (register_of c a) v) (λ _. byte_levels (register_of c a) (a % 4) v))
      (λ _. refl)
  same_levels (event.Line line level) n3 = absurd (n3 refl)
  same_levels event.Nmi n3 = refl
  same_levels event.Tick n3 = ticked_levels (tick_of m.core.timer)
  same_levels (event.Fault b a) n3 = fault_levels (execution m) b a
  same_levels event.Svc n3 = by_cases Leaves (is_negative (execution m)) (λ _. refl) (λ _. raised_levels (execution m) 11 m.core.system)
  same_levels (event.Special which v) n3 = by_cases Leaves (ltb 4 which || lacks_special c which) (λ _. refl) (λ _. by_cases Leaves (privileged m.core) (λ _. refl) (λ _. refl))
  same_levels event.Entry n3 = enter_levels (chosen m)
  same_levels (event.Return v) n3 =
      by_cases Leaves (link_fits m.core.depth v) (λ _. by_cases Level (on m.level (top (stack m))) (λ _. refl) (λ _. refl)) (λ _. refl)
  same_levels (event.Access kind w a) n3 =
      by_cases Leaves (is_armv6m c) (λ _. refl)
      (λ _. by_cases Leaves (ltb 2 (access_number kind)) (λ _. refl)
      (λ _. by_cases Leaves (not (fits_access (access_number kind) w)) (λ _. refl)
      (λ _. by_cases Leaves (not (eqb (a % w) 0)) (λ _. refl) (λ _. refl))))
  same_levels (event.Lost line) n3 = by_cases Leaves (leb c.lines line) (λ _. refl) (λ _. refl)
  same_levels (event.Skip n) n3 = subst Leaves (sym (skip_timer m n)) (ticked_levels (skip_of n m.core.timer))

-- ---- what an event makes of other counts

module _ (c : Chip) (m : Model) (x : List ℕ) where
  -- choices by a test that does not look at them
  choice : (b : Bool) {p q : Answer} (r s : Answer) → p ≡ counting x r → q ≡ counting x s → cond b p q ≡ counting x (cond b r s)
  choice true r s e f = e
  choice false r s e f = f

  model_choice : (b : Bool) {p q : Model} (r s : Model) → p ≡ with_lost x r → q ≡ with_lost x s → cond b p q ≡ with_lost x (cond b r s)
  model_choice true r s e f = e
  model_choice false r s e f = f

  pub levelled_frame : (n : ℕ) (high : Bool) → levelled n high (with_lost x m) ≡ with_lost x (levelled n high m)
  unfolding levelled
  levelled_frame n high = model_choice (high && not (on m.level n)) _ _ refl refl

  bank_value_lem : (b : Bank) (n : ℕ) → bank_value b n (with_lost x m) ≡ bank_value b n m
  unfolding bank_value
  bank_value_lem EnableSet n = refl
  bank_value_lem EnableClear n = refl
  bank_value_lem PendingSet n = refl
  bank_value_lem PendingClear n = refl
  bank_value_lem Active n = refl

  system_value_lem : (r : SystemRegister) → system_value c r (with_lost x m) ≡ system_value c r m
  unfolding system_value
  system_value_lem Ictype = refl
  system_value_lem Cpuid = refl
  system_value_lem Intctrl = refl
  system_value_lem Vtable = refl
  system_value_lem Apint = refl
  system_value_lem Sysctrl = refl
  system_value_lem Cfgctrl = refl
  system_value_lem Syshndctrl = refl
  system_value_lem Faultstat = refl
  system_value_lem Hfaultstat = refl
  system_value_lem Mmaddr = refl
  system_value_lem Faultaddr = refl
  system_value_lem Swtrig = refl

  value_frame : (r : Register) → value_of c r (with_lost x m) ≡ value_of c r m
  unfolding value_of
  value_frame reg.Missing = refl
  value_frame (reg.Timer r) = refl
  value_frame (reg.Flags b n) = bank_value_lem b n
  value_frame (reg.Priority n) = refl
  value_frame (reg.System r) = system_value_lem r
  value_frame (reg.Guard r) = refl
  value_frame (reg.Constant k) = refl

  read_frame : (r : Register) → after_read r (with_lost x m) ≡ with_lost x (after_read r m)
  unfolding after_read
  read_frame reg.Missing = refl
  read_frame (reg.Timer r) = refl
  read_frame (reg.Flags b n) = refl
  read_frame (reg.Priority n) = refl
  read_frame (reg.System r) = refl
  read_frame (reg.Guard r) = refl
  read_frame (reg.Constant k) = refl

  bank_frame : (b : Bank) (n v : ℕ) → bank_written b n v (with_lost x m) ≡ with_lost x (bank_written b n v m)
  unfolding bank_written
  bank_frame EnableSet n v = refl
  bank_frame EnableClear n v = refl
  bank_frame PendingSet n v = refl
  bank_frame PendingClear n v = refl
  bank_frame Active n v = refl

  system_frame : (r : SystemRegister) (v : ℕ) → system_written c r v (with_lost x m) ≡ with_lost x (system_written c r v m)
  unfolding system_written
  system_frame Ictype v = refl
  system_frame Cpuid v = refl
  system_frame Intctrl v = refl
  system_frame Vtable v = refl
  system_frame Apint v = refl
  system_frame Sysctrl v = refl
  system_frame Cfgctrl v = refl
  system_frame Syshndctrl v = refl
  system_frame Faultstat v = refl
  system_frame Hfaultstat v = refl
  system_frame Mmaddr v = refl
  system_frame Faultaddr v = refl
  system_frame Swtrig v = refl

  word_frame : (r : Register) (v : ℕ) → word_written c r v (with_lost x m) ≡ with_lost x (word_written c r v m)
  unfolding word_written
  word_frame reg.Missing v = refl
  word_frame (reg.Timer r) v = refl
  word_frame (reg.Flags b n) v = bank_frame b n v
  word_frame (reg.Priority n) v = refl
  word_frame (reg.System r) v = system_frame r v
  word_frame (reg.Guard r) v = refl
  word_frame (reg.Constant k) v = refl

  byte_frame : (r : Register) (lane v : ℕ) → byte_written c r lane v (with_lost x m) ≡ with_lost x (byte_written c r lane v m)
  unfolding byte_written
  byte_frame reg.Missing lane v = refl
  byte_frame (reg.Timer r) lane v = refl
  byte_frame (reg.Flags b n) lane v = refl
  byte_frame (reg.Priority n) lane v = refl
  byte_frame (reg.System r) lane v = refl
  byte_frame (reg.Guard r) lane v = refl
  byte_frame (reg.Constant k) lane v = refl

  raised_frame : (e : ℤ) (n : ℕ) (s : System) → raised c e (with_lost x m) n s ≡ counting x (raised c e m n s)
  unfolding raised escalates
  raised_frame e n s = choice (escalates e m n) _ _ refl refl

  fault_frame : (e : ℤ) (b a : ℕ) → fault_at c e (with_lost x m) b a ≡ counting x (fault_at c e m b a)
  unfolding fault_at
  fault_frame e b a = go (fault_exception b)
    where
      go : (o : Option ℕ) → fault_raised c e (with_lost x m) o b a ≡ counting x (fault_raised c e m o b a)
      go None = refl
      go (Some n) = choice (is_negative e) _ _ refl (raised_frame e n _)

  enter_frame : (o : Option ℕ) → enter (with_lost x m) o ≡ counting x (enter m o)
  unfolding entered
  enter_frame None = refl
  enter_frame (Some n) = refl

  returned_frame : (v : ℕ) → returned v (with_lost x m) ≡ with_lost x (returned v m)
  unfolding returned repended
  returned_frame v =
      ap
      (λ (t : Model). with_masks (returned_masks (top (stack m)) v m.core.masks) (with_depth (pred m.core.depth) (with_nest (set m.nest (pred m.core.depth) 0) (with_active (set m.active (top (stack m)) false) t))))
      (model_choice (on m.level (top (stack m))) _ _ refl refl)

  ticked_frame : (t : Ticked) → ticked_model t (with_lost x m) ≡ with_lost x (ticked_model t m)
  ticked_frame t = ap (with_timer t.timer) (model_choice t.pends _ _ refl refl)

  access_frame : (e : ℤ) (k w a : ℕ) → access_at c.guard e (with_lost x m) k w a ≡ counting x (access_at c.guard e m k w a)
  unfolding access_at
  access_frame e k w a =
      choice (ltb 2 k) _ _ refl (choice (not (fits_access k w)) _ _ refl (choice (not (eqb (a % w) 0)) _ _ refl refl))

  -- every event but a level event and event 12
  pub same_frame : (e : Event) → kind_of e ≢ 3 → kind_of e ≢ 12 → act_of c (with_lost x m) e ≡ counting x (act_of c m e)
  unfolding kind_of read_call write_call written tick_call svc_at special_at entry_at return_call access_by execution
  same_frame (event.Read w a) n3 n12 =
      choice (eqb (access_refusal c (register_of c a) (privileged m.core) w a) 0) _ _ (rw (value_frame (register_of c a), read_frame (register_of c a))) refl
  same_frame (event.Write w a v) n3 n12 =
      choice (eqb (access_refusal c (register_of c a) (privileged m.core || free_write m.core w a) w a) 0) _ _
      (ap (done 0) (model_choice (eqb w 4) _ _ (word_frame (register_of c a) v) (byte_frame (register_of c a) (a % 4) v)))
      refl
  same_frame (event.Line line level) n3 n12 = absurd (n3 refl)
  same_frame event.Nmi n3 n12 = refl
  same_frame event.Tick n3 n12 = ap (done (bit (tick_of m.core.timer).fell)) (ticked_frame (tick_of m.core.timer))
  same_frame (event.Fault b a) n3 n12 = fault_frame (execution m) b a
  same_frame event.Svc n3 n12 = choice (is_negative (execution m)) _ _ refl (raised_frame (execution m) 11 m.core.system)
  same_frame (event.Special which v) n3 n12 = choice (ltb 4 which || lacks_special c which) _ _ refl (choice (privileged m.core) _ _ refl refl)
  same_frame event.Entry n3 n12 = enter_frame (chosen m)
  same_frame (event.Return v) n3 n12 =
      choice (link_fits m.core.depth v) _ _ (ap (done (top (down m.nest (pred m.core.depth)))) (returned_frame v)) refl
  same_frame (event.Access kind w a) n3 n12 = choice (is_armv6m c) _ _ refl (access_frame (execution m) (access_number kind) w a)
  same_frame (event.Lost line) n3 n12 = absurd (n12 refl)
  same_frame (event.Skip n) n3 n12 =
      skip_timer (with_lost x m) n
      ∙ ap (done (bit (skip_of n m.core.timer).fell)) (ticked_frame (skip_of n m.core.timer))
      ∙ sym (ap (counting x) (skip_timer m n))
