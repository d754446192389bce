-- The strings that are tags in a source text.
use Rattle.std.specs.Prelude.{ℕ, Bool, true, ◌&&◌, not, List, [], ◌∷◌, eqb, ltb, length}
use Rattle.gp_base.specs.declared.tag.TheConstants.{TAG_LIMIT}

-- a character from the blank to `~`, but no backslash
abbrev pub is_tag_character : ℕ → Bool
is_tag_character c = not (ltb c 32) && not (ltb 126 c) && not (eqb c 92)

abbrev pub all_tag_characters : List ℕ → Bool
all_tag_characters [] = true
all_tag_characters (c ∷ cs) = is_tag_character c && all_tag_characters cs

-- at least one such character, and at most as many as a tag may have
abbrev pub is_tag : List ℕ → Bool
is_tag text = ltb 0 (length text) && not (ltb TAG_LIMIT (length text)) && all_tag_characters text
