-- Exception frames (document 01, Frames). A window is a base address with the bytes lent; numbers are addresses and words.
use Rattle.std.specs.Prelude.{ℕ, ◌+◌, ◌-◌, ◌%◌, ◌^◌, List, [], ◌∷◌, ◌++◌, Bool, true, false, cond, ◌&&◌, Result, Ok, Err, length, get_or, take, drop, leb, ltb, eqb}
use Rattle.bits.specs.Words.{bit_at, with_bit, byte_at, word_of_bytes}
use Rattle.refusals.specs.declared.Refusal.{Refusal}
use Rattle.refusals.specs.declared.Refusal.TheVariants as refusal
use Rattle.frame.specs.declared.Words.{Words}
use Rattle.frame.specs.declared.Unstacked.{Unstacked}

-- "12: window over 65,536 bytes, base no multiple of 4, or end past 2^32"
unfoldable pub window_fits : ℕ → ℕ → Bool
window_fits base len = leb len 65536 && eqb (base % 4) 0 && leb (base + len) (2 ^ 32)

-- the 32 bytes of a frame lie wholly in the window
unfoldable pub holds_frame : ℕ → ℕ → ℕ → Bool
holds_frame base len frame = leb base frame && leb (frame + 32) (base + len)

-- bit 2 of SP - 32 is set and the flag asks to clear it, so that four bytes of padding lie above the frame
unfoldable pub padded : Bool → ℕ → Bool
padded align sp = align && bit_at 2 (sp - 32)

-- "The frame is at SP - 32, with bit 2 cleared if the flag is set", in the manual STKALIGN
unfoldable pub frame_at : Bool → ℕ → ℕ
frame_at align sp = cond align (with_bit 2 false (sp - 32)) (sp - 32)

-- "xPSR bit 9 is set exactly if bit 2 was cleared"
abbrev pub stored_words : Bool → ℕ → Words → Words
stored_words align sp w =
    record {
      r0 = w.r0;
      r1 = w.r1;
      r2 = w.r2;
      r3 = w.r3;
      r12 = w.r12;
      lr = w.lr;
      pc = w.pc;
      xpsr = with_bit 9 (padded align sp) w.xpsr;
    }

-- 11 for stacking: "SP no multiple of 4, or frame below 0 or not wholly in the window"
unfoldable pub stack_fits : ℕ → ℕ → ℕ → Bool → Bool
stack_fits base len sp align = eqb (sp % 4) 0 && leb 32 sp && holds_frame base len (frame_at align sp)

-- 12 is checked first
unfoldable pub refusal_of : Bool → Bool → ℕ
refusal_of window frame = cond window (cond frame 0 11) 12

-- the same two tests with the refusal itself
unfoldable pub checked : Bool → Bool → Result (Unit {0}) Refusal
checked window frame = cond window (cond frame (Ok tt) (Err refusal.Frame)) (Err refusal.Window)

abbrev pub stack_refusal : ℕ → ℕ → ℕ → Bool → ℕ
stack_refusal base len sp align = refusal_of (window_fits base len) (stack_fits base len sp align)

-- stacking answers the frame's address, which is the new SP: with `stacked_window` the manual's PushStack()
unfoldable pub stacked : ℕ → ℕ → ℕ → Bool → Result ℕ Refusal
stacked base len sp align =
    cond (window_fits base len) (cond (stack_fits base len sp align) (Ok (frame_at align sp)) (Err refusal.Frame)) (Err refusal.Window)

-- the words in their order, as a list
abbrev pub listed : Words → List ℕ
listed w = w.r0 ∷ (w.r1 ∷ (w.r2 ∷ (w.r3 ∷ (w.r12 ∷ (w.lr ∷ (w.pc ∷ (w.xpsr ∷ [])))))))

-- "The 32 bytes are written little-endian"
abbrev pub word_bytes : ℕ → List ℕ
word_bytes w = byte_at 0 w ∷ (byte_at 1 w ∷ (byte_at 2 w ∷ (byte_at 3 w ∷ [])))

unfoldable pub frame_bytes : List ℕ → List ℕ
frame_bytes [] = []
frame_bytes (w ∷ ws) = word_bytes w ++ frame_bytes ws

-- "every other byte stays": the window with a frame's bytes from an offset on
unfoldable pub written : List ℕ → ℕ → Words → List ℕ
written window at words = take at window ++ (frame_bytes (listed words) ++ drop (at + 32) window)

-- the window that stacking leaves; on a refusal as it was
unfoldable pub stacked_window : ℕ → List ℕ → ℕ → Words → Bool → List ℕ
stacked_window base window sp words align =
    cond
    (eqb (stack_refusal base (length window) sp align) 0)
    (written window (frame_at align sp - base) (stored_words align sp words))
    window

-- the words as stored, from an offset on
unfoldable pub word_at : List ℕ → ℕ → ℕ
word_at window at = word_of_bytes (get_or window at 0) (get_or window (at + 1) 0) (get_or window (at + 2) 0) (get_or window (at + 3) 0)

abbrev pub words_at : List ℕ → ℕ → Words
words_at window at =
    record {
      r0 = word_at window at;
      r1 = word_at window (at + 4);
      r2 = word_at window (at + 8);
      r3 = word_at window (at + 12);
      r12 = word_at window (at + 16);
      lr = word_at window (at + 20);
      pc = word_at window (at + 24);
      xpsr = word_at window (at + 28);
    }

-- "SP + 32, with bit 2 set if the flag and the stored bit 9 are"
unfoldable pub restored_sp : Bool → ℕ → ℕ → ℕ
restored_sp align sp xpsr = cond (align && bit_at 9 xpsr) (with_bit 2 true (sp + 32)) (sp + 32)

-- 11 for unstacking: "SP no multiple of 4, or frame .. not wholly in the window, or restored SP past 32 bits"
unfoldable pub unstack_fits : ℕ → ℕ → ℕ → Bool
unstack_fits base len sp = eqb (sp % 4) 0 && holds_frame base len sp && ltb (sp + 32) (2 ^ 32)

abbrev pub unstack_refusal : ℕ → ℕ → ℕ → ℕ
unstack_refusal base len sp = refusal_of (window_fits base len) (unstack_fits base len sp)

abbrev pub no_words : Words
no_words = record { r0 = 0; r1 = 0; r2 = 0; r3 = 0; r12 = 0; lr = 0; pc = 0; xpsr = 0 }

abbrev pub gave_back : ℕ → Words → Result Unstacked Refusal
gave_back sp words = Ok (record { sp = sp; words = words })

-- unstacking answers the words as stored and the restored SP: the manual's PopStack()
unfoldable pub unstacked : ℕ → List ℕ → ℕ → Bool → Result Unstacked Refusal
unstacked base window sp align =
    cond (window_fits base (length window))
    (cond (unstack_fits base (length window) sp)
    (gave_back (restored_sp align sp (words_at window (sp - base)).xpsr) (words_at window (sp - base)))
    (Err refusal.Frame))
    (Err refusal.Window)
