use Rattle.std.proofs.Common.{◌≡◌, ◌∙◌, ◌++◌, ℕ, List, drop, ap, sym, arith}
use Rattle.std.specs.List.{flat_map, range_with_len}
use Rattle.certificate.specs.Print.{listed_word}
use Rattle.certificate.proofs.ListedWords.{all_joined, listed_more}
use Rattle.certificate.proofs.print.commas_and_words.Goals as goal

pub returns : goal.returns
returns c =
    let set = c.args.words.now in
    let last : c.loop-word.word ≡ 64 = omega (arith, c.loop-word-test.false, c.loop-word.auto.word-end) in
    ap (drop 1) c.loop-word.invariant ∙ ap (λ (word : ℕ). drop 1 (flat_map (listed_word set) (range_with_len 0 word))) last ∙ all_joined set

pub loop-word-preserved : goal.loop-word-preserved
loop-word-preserved c =
    let set = c.args.words.now in
    let word = c.loop-word.word in
    c.in_ok-put_listed.ensures ∙ ap (λ (text : List ℕ). text ++ listed_word set word) c.loop-word.invariant ∙ sym (listed_more set word)
