-- The roles of frames: two names of a frame are one, and a step at which one frame changes its name keeps the roles.
use Rattle.std.proofs.Common.{◌≡◌, ◌≢◌, ℕ, sym, subst, ◌∙◌, ◌⊎◌, inl, inr}
use Rattle.std.proofs.lemmas.Bool.{cases_eq}
use Rattle.nm_base.specs.Geometry.{Geometry}
use Rattle.nm_base.specs.Ranges.{IsFrame}
use Rattle.nm_world.specs.FrameLaw.{Claim, Claims, Names, HasRole, AreRoles}

-- two claims on one frame are the same claim
pub one_claim : (g : Geometry) (n : Names) (f : ℕ) (c d : Claim) → AreRoles g n → IsFrame g f → Claims n c f → Claims n d f → c ≡ d
one_claim g n f c d roles frame mine theirs =
    let role = roles f frame in
    role.1.only c mine ∙ sym (role.1.only d theirs)

-- frame f goes from one claim to another; every other claim on a frame stands after the step just where it stood before
pub record MovesOne (n after : Names) (f : ℕ) (from to : Claim) : Type 0 where
  pub was : Claims n from f
  pub is : Claims after to f
  pub gone : Claims after from f → from ≡ to
  pub back : (c : Claim) (h : ℕ) → Claims after c h → ((c ≡ to) × (h ≡ f)) ⊎ Claims n c h
  pub forth : (c : Claim) (h : ℕ) → h ≢ f → Claims n c h → Claims after c h

pub one_moves : (g : Geometry) (n after : Names) (f : ℕ) (from to : Claim) → MovesOne n after f from to → IsFrame g f → AreRoles g n → AreRoles g after
one_moves g n after f from to moves there roles h frame =
    elim (cases_eq h f) [
      | inl same ↦
          let Role : ℕ → Type 0 = λ k. (c : Claim) × HasRole after k c in
          subst Role (sym same) (
            to,
            record {
              is = moves.is;
              only = λ c claims. elim (moves.back c f claims) [
                | inl new ↦ new.0
                | inr old ↦
                    let is_from : c ≡ from = one_claim g n f c from roles there old moves.was in
                    is_from ∙ moves.gone (subst (λ (d : Claim). Claims after d f) is_from claims)
              ];
            },
          )
      | inr other ↦
          let role = roles h frame in (
            role.0,
            record {
              is = moves.forth role.0 h other role.1.is;
              only = λ c claims. elim (moves.back c h claims) [
                | inl new ↦ absurd (other new.1)
                | inr old ↦ role.1.only c old
              ];
            },
          )
    ]
