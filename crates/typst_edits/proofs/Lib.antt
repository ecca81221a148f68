-- From what a contract promises to the lemma behind it:
--   block_law: edit              Text: of a whole text; Law: for every parser; Spots, Outcomes: word by word; Blocks: each block's node; Edit: looks
--     that the block fits        Content; Known: what is known of trivia is all of them, and what stays true of it; Traversal, and Gathering with the blocks that are read: what holds of whatever the language can say, word by word
--   block_law: names             Names: each block is the one of its name, between its marks, and what holds of each block of a reading, word by word
--   complete_law                 Complete: word by word, by the notes of the log
--   standing_law: blocks         Standing; Seats: a spot at a position, and in what nodes become; Positions: what holds at each position, and of each token's node
--   standing_law: unnoted        Unnoted
--   (no other law needs run_law; pieces that are kept rest on joint_law, and on pieces-same and first-same of BlockRuns)
--   run_law                      BlockRuns: of a whole text and of a content block; RunTrees: its tree and log; Runs: of any loop and any run
--   joint_law                    Joint; Turns: each word before a token is taken, each head of markup, and how a run is read
--   children_law                 Children: of a whole text and of a content block, also without the trivia before the pieces
--   head_law                     Heads
--   decision_law                 Bytes: where looks end and begin, the notes of a log, and what their numbers say; Boundary: where pieces of any run end; RunBytes: the note there in the log, of any run, of a whole text and of a content block; Widths: characters and bytes; Looks: what is said of each look; Within: looks are at places of the text
--   replaced_law                 Replaced
--   empty_run_law                EmptyRuns: of a whole text; EmptyBlocks: of a content block
--   candidates_law               CandidatePlaces
--   notes_law                    PieceNotes: of a whole text and of a content block; BlockLog: a block's two notes in the log; Bytes: in any list of asks
--   numbered_notes_law           NumberedNotes: of a whole text and of a content block, and the number of a note; InnerNumbers: in a block; Cuts: where the tokens after pieces begin
--   rising_law                   Rising: marks in order, in whatever the language can say, by where they stand; InOrder: by their tokens; OpensApart: those where blocks begin; Nested: how they stand in each other; BlockLog: of any block; NestedInner: between the two notes of a block
--   leading_law                  Leading: of a whole text and of a content block; Fronts: nodes of which the first isn't empty
--   block_worth_law              CandidateWorth
--   part_law                     BlockPart
--   splice_law                   Splice: notes before a stretch and after it, what stands after a note, and any asks; RunSplice: of a block, and of pieces of a text's run and of a block's; PieceAsks: what is asked of them; Seen: what is noted was looked at; Forward: trivia look ahead alone
--   one_reading_law              OneReading
--   block_test_law               BlockTest: entries and the block by itself; EntryNumbers: a block's two notes among the entries, and what a note's number says of looks; MarkupCandidates: the candidate's node in a hole; BlockPlaces: the block there, by bytes, also one that a reading that was given up covers
--   pieces_test_law              ReadAlone: pieces read by themselves, of any run; EntryNumbers: looks by a note's number; PiecesTest: of a whole text and of a content block
--   inner_pieces_test_law        PiecesTest
--   run_test_law, inner_run_test_law      AnyRun: any run; RunTest: of a whole text and of a content block; RunOver: the end of a run
--   served_law                   AnyRun: any run; Served: of a whole text and of a content block
--   run_numbers_law              RunNumbers: of a whole text and of a content block; FoundPieces: of any run, and of nested notes
--   path_law                     Walk
--   root_worth_law, inner_worth_law      CandidateWorth
--   pieces_worth_law             RunPieces: at the root and in a content block
--   piece_candidates_law         RunCandidates: at the root and in a content block; CandidateEnds: of any run; MarkupCandidates, MarkupPlaces: from which run a candidate comes; Cuts: the cuts of a block's run
--   candidate_runs_law           RootRuns: at the root, and of any run; InnerRuns: in a content block; MarkupPlaces: the node of a block in whose markup a candidate stands; Deepest: a level is left in it; StartBytes: where it begins
--   candidate_law                CandidateWorth: each case of the test (proofs of code use answer_law and the laws of tests)
--   answer_law                   AnswerTree: the answer's tree; Unique: the nodes in a candidate's place, and so the answer, are one
--   resume_law                   Resumed: pieces read again; PiecesLog: what is logged of them
--   mode_law                     BlockModes: a block's first token, and what stands in it
--   joints_of_texts              computed (laws); Begins: the test of looks
--   answers_of_texts, blocks_of_texts, origins_of_texts, runs_of_texts, splices_of_texts, inner_splices_of_texts, conditions_of_texts, rare_conditions_of_texts      computed (laws); Computing: what is opened for them
pub mod Cited
pub mod Every
pub mod Computing
pub mod Traversal
pub mod Outcomes
pub mod Spots
pub mod Law
pub mod Edit
pub mod Blocks
pub mod Text
pub mod Gathering
pub mod Names
pub mod Complete
pub mod Positions
pub mod Seats
pub mod Standing
pub mod Unnoted
pub mod Known
pub mod Content
pub mod Runs
pub mod BlockRuns
pub mod Turns
pub mod Begins
pub mod Joint
pub mod Looks
pub mod Within
pub mod Widths
pub mod Bytes
pub mod Seen
pub mod Splice
pub mod Boundary
pub mod RunBytes
pub mod RunTrees
pub mod Children
pub mod Heads
pub mod Replaced
pub mod CandidatePlaces
pub mod EmptyRuns
pub mod Forward
pub mod PieceAsks
pub mod EmptyBlocks
pub mod BlockLog
pub mod PieceNotes
pub mod NumberedNotes
pub mod Rising
pub mod InOrder
pub mod OpensApart
pub mod Nested
pub mod NestedInner
pub mod FoundPieces
pub mod RunNumbers
pub mod Fronts
pub mod Leading
pub mod Cuts
pub mod InnerNumbers
pub mod Walk
pub mod BlockModes
pub mod Resumed
pub mod RunSplice
pub mod PiecesLog
pub mod BlockPart
pub mod CandidateEnds
pub mod MarkupCandidates
pub mod Deepest
pub mod RunCandidates
pub mod RootRuns
pub mod RunPieces
pub mod CandidateWorth
pub mod AnswerTree
pub mod Unique
pub mod OneReading
pub mod EntryNumbers
pub mod MarkupPlaces
pub mod BlockPlaces
pub mod BlockTest
pub mod StartBytes
pub mod InnerRuns
pub mod ReadAlone
pub mod PiecesTest
pub mod RunOver
pub mod AnyRun
pub mod RunTest
pub mod Served
pub mod ForParser
-- What the crates above name of those below.
pub use Rattle.typst_grammar.proofs.AtLevels
pub use Rattle.typst_language.proofs.Knowing
pub use Rattle.typst_language.proofs.Steps
pub use Rattle.typst_grammar.proofs.Whole
