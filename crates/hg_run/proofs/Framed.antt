-- Sets of open regions.
use Rattle.std.proofs.Common.{◌≡◌, ◌⊎◌, inl, inr, Result, Ok, Err, OnOk, List, [], ◌∷◌, ◌++◌, refl, sym, subst}
use Rattle.gp_base.specs.Membership.{In}
use Rattle.hg_graph.specs.Graph.{Graph}
use Rattle.hg_run.specs.declared.state.Frame.{Frame}
use Rattle.hg_run.specs.code.Stepped.{FrameKeeps, FramesKeep}

in_more : (x f : Frame) (frames : List Frame) → In x (frames ++ f ∷ []) → In x frames ⊎ (x ≡ f)
in_more x f [] (inl e) = inr e
in_more x f [] (inr i) = absurd i
in_more x f (y ∷ frames) (inl e) = inl (inl e)
in_more x f (y ∷ frames) (inr i) = elim (in_more x f frames i) [ inl j ↦ inl (inr j) | inr e ↦ inr e ]

in_front : (x f : Frame) (frames : List Frame) → In x frames → In x (frames ++ f ∷ [])
in_front x f [] i = absurd i
in_front x f (y ∷ frames) (inl e) = inl e
in_front x f (y ∷ frames) (inr i) = inr (in_front x f frames i)

in_last : (f : Frame) (frames : List Frame) → In f (frames ++ f ∷ [])
in_last f [] = inl refl
in_last f (y ∷ frames) = inr (in_last f frames)

pub keep_more : (g : Graph) (frames new : List Frame) (f : Frame) → new ≡ frames ++ f ∷ [] → FramesKeep g frames → FrameKeeps g f → FramesKeep g new
keep_more g frames new f e keeps one = subst (FramesKeep g) (sym e) (λ x i. elim (in_more x f frames i) [ inl j ↦ keeps x j | inr q ↦ subst (FrameKeeps g) (sym q) one ])

pub keep_front : (g : Graph) (old frames : List Frame) (f : Frame) → old ≡ frames ++ f ∷ [] → FramesKeep g old → FramesKeep g frames
keep_front g old frames f e keeps = λ x i. keeps x (subst (In x) (sym e) (in_front x f frames i))

pub keep_last : (g : Graph) (old frames : List Frame) (f : Frame) → old ≡ frames ++ f ∷ [] → FramesKeep g old → FrameKeeps g f
keep_last g old frames f e keeps = keeps f (subst (In f) (sym e) (in_last f frames))

pub on_ok_any : {T E : Type 0} (r : Result T E) (P : Type 0) → P → OnOk r P
on_ok_any (Ok a) P p = p
on_ok_any (Err e) P p = tt
