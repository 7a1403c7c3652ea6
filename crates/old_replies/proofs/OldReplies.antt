-- Replies are the rules' answers and what a run writes is the rules' text, so they agree where those do.
use mathlib.Core.Path.{◌≡◌, refl, sym, ◌∙◌, subst}
use mathlib.Core.List.{List, [], ◌∷◌, map}
use native.Mathlib.Omega.{arith}
use lib.Dec.{T}
use Rattle.script.specs.declared.Event.{Event}
use Rattle.mpu.specs.declared.Edition.TheVariants.{Pmsav7}
use Rattle.rules.specs.declared.Part.TheVariants.{Lines55, Lines240}
use Rattle.rules.specs.declared.Setup.{Setup}
use Rattle.rules.specs.Chip.{chip55, chip240, chip_of, fits}
use Rattle.rules.specs.Model.{Answer, fresh}
use Rattle.rules.specs.Step.{answers_of}
use Rattle.old_scripts.specs.Alike.{Agreeing}
use Rattle.old_scripts.specs.OldScripts.{Grown}
use Rattle.old_scripts.proofs.OldScripts.{fits_too, old_scripts}
use Rattle.any_chip.specs.declared.State.{State}
use Rattle.any_chip.specs.View.{Reply}
use Rattle.any_chip.specs.View.{model, state}
use Rattle.any_chip.specs.Demand3.{answer, Called}
use Rattle.any_chip.proofs.Demand3.{code_demand3}
use Rattle.any_run.proofs.Joined as any
use Rattle.run.proofs.Joined as bench
use Rattle.old_replies.specs.OldReplies.{SameReplies, OldReplies, AsBench}

answered : (s : Setup) → T (fits (chip_of s)) → {es : List Event} {rs : List Reply} {a : State} → Called (state s (fresh (chip_of s))) es rs a → map answer rs ≡ answers_of (chip_of s) (fresh (chip_of s)) es
answered s f {es} {rs} {a} k = ((code_demand3 s f).calls es rs a k).answered

same_replies : (rs us : List Reply) → Agreeing (map answer rs) (map answer us) → SameReplies rs us
same_replies [] [] h = tt
same_replies [] (u ∷ us) h = h
same_replies (r ∷ rs) [] h = h
same_replies (r ∷ rs) (u ∷ us) h =
    let a = h.0 in
    (record { refusal = a.refusal; value = a.value; vector = a.vector; link = a.link; topmost = a.topmost; priority = a.priority }, same_replies rs us h.1)

pub old_replies : (s t : Setup) → Grown (chip_of s) (chip_of t) → OldReplies s t
old_replies s t g =
    record {
      replies = λ es rs us a b o k l.
          same_replies rs us
          (subst (λ (xs : List Answer). Agreeing xs (map answer us)) (sym (answered s g.fit k))
          (subst (Agreeing (answers_of (chip_of s) (fresh (chip_of s)) es)) (sym (answered t (fits_too g) l)) ((old_scripts g).answers es o)));
      runs = λ script small o outs here others there p q k l e f.
          (any.code_joined s script small).whole outs here p k e ∙ (old_scripts g).text script o ∙ sym ((any.code_joined t script small).whole others there q l f);
    }

pub as_bench : (t : Setup) → Grown chip55 (chip_of t) → AsBench t
as_bench t g script small o outs here others there p q k l e f =
    (bench.code_joined script small).whole outs here p k e ∙ (old_scripts g).text script o ∙ sym ((any.code_joined t script small).whole others there q l f)

-- ---- "An old script for 55 lines .. on the new chip"

grown : Grown chip55 chip240
grown = record { lines = omega arith; bits = refl; guard = refl; profiles = (refl, refl); fit = tt }

pub old_replies_55_240 : OldReplies (record { part = Lines55; bits = 3; guard = Pmsav7 }) (record { part = Lines240; bits = 3; guard = Pmsav7 })
old_replies_55_240 = old_replies _ _ grown

pub as_bench_240 : AsBench (record { part = Lines240; bits = 3; guard = Pmsav7 })
as_bench_240 = as_bench _ grown
