-- A walk's end and the three words that a caller gets of it are one to one. Assumes nothing.
use Rattle.std.proofs.Common.{◌≡◌, ℕ, List, [], ◌∷◌, get_or, refl, ap, sym, ◌∙◌}
use Rattle.walks.specs.declared.walk.End.{End}
use Rattle.walks.specs.declared.walk.End.TheVariants as end
use Rattle.exports.specs.Found.{end_words}

-- back from the words
abbrev ends : List (ℕ → ℕ → End)
ends = (λ a k. end.Done) ∷ (λ a k. end.NoLink) ∷ (λ a k. end.Left a k) ∷ (λ a k. end.NoNode) ∷ []

abbrev end_of : List ℕ → End
end_of ws = get_or ends (get_or ws 0 0) (λ a k. end.Done) (get_or ws 1 0) (get_or ws 2 0)

back : (e : End) → end_of (end_words e) ≡ e
back end.Done = refl
back end.NoLink = refl
back (end.Left a k) = refl
back end.NoNode = refl

-- two ends with the same words are the same end
pub same_end : (e f : End) → end_words e ≡ end_words f → e ≡ f
same_end e f w = sym (back e) ∙ ap end_of w ∙ back f
